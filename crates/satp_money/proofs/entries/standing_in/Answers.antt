use Rattle.std.proofs.Common.{◌∙◌, sym}
use Rattle.satp_base.proofs.SessionLemmas.{get_session}
use Rattle.satp_money.proofs.Steps.{stands, stands_absent, stands_none}
use Rattle.satp_money.proofs.entries.standing_in.Goals as goal

pub returns-in-None-clause-entry : goal.returns-in-None-clause-entry
returns-in-None-clause-entry c = (stands_none _ c.args.session c.args.terms (get_session c.args.entries.now.entries c.args.session ∙ sym c.get.ensures.value ∙ sym c.copied.ensures ∙ c.in-None.is)).0

pub returns-in-None-clause-terms : goal.returns-in-None-clause-terms
returns-in-None-clause-terms c = (stands_none _ c.args.session c.args.terms (get_session c.args.entries.now.entries c.args.session ∙ sym c.get.ensures.value ∙ sym c.copied.ensures ∙ c.in-None.is)).1

pub returns-in-Absent-clause-entry : goal.returns-in-Absent-clause-entry
returns-in-Absent-clause-entry c = (stands_absent _ c.args.session c.args.terms c.in-Some.kept (get_session c.args.entries.now.entries c.args.session ∙ sym c.get.ensures.value ∙ sym c.copied.ensures ∙ c.in-Some.is) c.in-Absent.is).0

pub returns-in-Absent-clause-terms : goal.returns-in-Absent-clause-terms
returns-in-Absent-clause-terms c = (stands_absent _ c.args.session c.args.terms c.in-Some.kept (get_session c.args.entries.now.entries c.args.session ∙ sym c.get.ensures.value ∙ sym c.copied.ensures ∙ c.in-Some.is) c.in-Absent.is).1

pub returns-in_default : goal.returns-in_default
returns-in_default c =
    let at = stands _ c.args.session c.args.terms c.in-Some.kept (get_session c.args.entries.now.entries c.args.session ∙ sym c.get.ensures.value ∙ sym c.copied.ensures ∙ c.in-Some.is) c.in_default.not-Absent in
    record { entry = at.0; terms = at.1 }
