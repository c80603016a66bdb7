use Rattle.std.proofs.Common.{◌≡◌, ◌∙◌, ◌+◌, Ok, Err, Some, ap, sym, refl}
use Rattle.std.proofs.lemmas.List.{take_rest}
use Rattle.satp_base.specs.Faults.{session_fault, parts_fault}
use Rattle.satp_base.specs.declared.fault.SessionFault.TheVariants as fault
use Rattle.satp_base.proofs.Exact.{session_found, session_number_fault, session_exact, no_session}
use Rattle.satp_base.proofs.session.SessionId.read.Goals as goal
use Rattle.satp_base.proofs.session.SessionId.read.Goals.{In_default, In-Err}

-- no full stop
no_stop : (c : In_default) → session_fault c.args.text.now ≡ Some fault.NoStop
no_stop c = ap (parts_fault c.args.text.now) (sym c.first_stop.ensures.first ∙ c.in_default.is)

pub returns-in_default-clause-form : goal.returns-in_default-clause-form
returns-in_default-clause-form c = (λ ok. absurd cc, no_session c.args.text.now _ (no_stop c))

pub returns-in_default-clause-complete : goal.returns-in_default-clause-complete
returns-in_default-clause-complete c = session_exact c.args.text.now (Err _) (no_stop c)

-- no name
no_name : (c : In-Err) → session_fault c.args.text.now ≡ Some (fault.Name c.in-Err.fault)
no_name c = ap (parts_fault c.args.text.now) (sym c.first_stop.ensures.first ∙ c.in-Some.is) ∙ rw c.in-Err.ensures.read refl

pub returns-in-Err-clause-form : goal.returns-in-Err-clause-form
returns-in-Err-clause-form c = (λ ok. absurd cc, no_session c.args.text.now _ (no_name c))

pub returns-in-Err-clause-complete : goal.returns-in-Err-clause-complete
returns-in-Err-clause-complete c = session_exact c.args.text.now (Err _) (no_name c)

-- a session
pub returns-in-Some-read_number-clause-read : goal.returns-in-Some-read_number-clause-read
returns-in-Some-read_number-clause-read c =
    let found = session_found c.args.text.now c.in-Some.stop c.in-Ok.gateway c.in-Some-read_number.number _ (sym c.first_stop.ensures.first ∙ c.in-Some.is) c.in-Ok.ensures.read.1 (take_rest c.args.text.now (c.in-Some.stop + 1)) (c.in-Some-read_number.ensures.form.0 refl) c.in-Some-read_number.ensures.read.0 in
    (found.faultless, found.text_is)

pub returns-in-Some-read_number-clause-form : goal.returns-in-Some-read_number-clause-form
returns-in-Some-read_number-clause-form c =
    let found = session_found c.args.text.now c.in-Some.stop c.in-Ok.gateway c.in-Some-read_number.number _ (sym c.first_stop.ensures.first ∙ c.in-Some.is) c.in-Ok.ensures.read.1 (take_rest c.args.text.now (c.in-Some.stop + 1)) (c.in-Some-read_number.ensures.form.0 refl) c.in-Some-read_number.ensures.read.0 in
    (λ ok. found.form, λ form. refl)

pub returns-in-Some-read_number-clause-complete : goal.returns-in-Some-read_number-clause-complete
returns-in-Some-read_number-clause-complete c = session_exact c.args.text.now (Ok _) (returns-in-Some-read_number-clause-read c)

-- no number
pub returns-in-None-clause-read : goal.returns-in-None-clause-read
returns-in-None-clause-read c =
    session_number_fault c.args.text.now c.in-Some.stop c.in-Ok.gateway _ (sym c.first_stop.ensures.first ∙ c.in-Some.is) c.in-Ok.ensures.read.1 (take_rest c.args.text.now (c.in-Some.stop + 1)) c.in-None.ensures.form.1

pub returns-in-None-clause-form : goal.returns-in-None-clause-form
returns-in-None-clause-form c = (λ ok. absurd cc, no_session c.args.text.now _ (returns-in-None-clause-read c))

pub returns-in-None-clause-complete : goal.returns-in-None-clause-complete
returns-in-None-clause-complete c = session_exact c.args.text.now (Err _) (returns-in-None-clause-read c)
