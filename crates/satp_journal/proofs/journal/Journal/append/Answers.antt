use Rattle.std.proofs.Common.{◌≡◌, true, false, Err, ◌++◌, ◌∷◌, [], ℕ, List, ap, subst, ◌∙◌, sym}
use Rattle.satp_base.specs.Calls.{Makes, FailsAmong, calls_of}
use Rattle.satp_base.specs.Format.{IsPayload}
use Rattle.satp_base.specs.Segments.{append_events}
use Rattle.satp_journal.specs.State.{Held, JournalState, Fits}
use Rattle.satp_journal.specs.Appending.{AppendAnswers}
use Rattle.satp_journal.specs.declared.fault.JournalFault.TheVariants.{Disk}
use Rattle.satp_journal.proofs.AppendLemmas.{adds_none, adds_all, adds_some, append_stops, append_rests, append_fits}
use Rattle.satp_journal.proofs.journal.Journal.append.Goals as goal

pub returns-then-self-clause-stops : goal.returns-then-self-clause-stops
returns-then-self-clause-stops g c =
    let told = g.D.Device.told c.args.disk.now in
    let ok : IsPayload c.args.payload.now = (c.requires.least, c.requires.most) in
    append_stops c.args.payload.now c.args.self.now.held ok told told (g.D.Device.keeps_model c.args.disk.now) (adds_none c.args.payload.now c.args.self.now.held ok told)

pub returns-in-Err-clause-stops : goal.returns-in-Err-clause-stops
returns-in-Err-clause-stops g c =
    let told = g.D.Device.told c.args.disk.now in
    let ok : IsPayload c.args.payload.now = (c.requires.least, c.requires.most) in
    append_stops c.args.payload.now c.args.self.now.held ok told told (g.D.Device.keeps_model c.args.disk.now) (adds_none c.args.payload.now c.args.self.now.held ok told)

pub returns-in-Ok-store-clause-stops : goal.returns-in-Ok-store-clause-stops
returns-in-Ok-store-clause-stops g c =
    let j = c.self.inside in
    let held : Held = record { area = j.area; payloads = j.stock.payloads; broken = j.broken } in
    let told = g.D.Device.told c.args.disk.now in
    let new = g.D.Device.told c.store.new.disk in
    let ok : IsPayload c.args.payload.now = (c.requires.least, c.requires.most) in
    let is = subst (λ (n : ℕ). Makes (calls_of (append_events j.area n c.args.payload.now)) told new) c.self.invariant.1 c.in-Ok-store.ensures.ok in
    rw (← c.self.view_is) (append_stops c.args.payload.now held ok told new (g.D.Device.keeps_model c.store.new.disk) (adds_all c.args.payload.now held ok told new is))

pub returns-in-Ok-store-clause-rests : goal.returns-in-Ok-store-clause-rests
returns-in-Ok-store-clause-rests g c =
    let j = c.self.inside in
    let held : Held = record { area = j.area; payloads = j.stock.payloads; broken = j.broken } in
    let told = g.D.Device.told c.args.disk.now in
    let new = g.D.Device.told c.store.new.disk in
    let ok : IsPayload c.args.payload.now = (c.requires.least, c.requires.most) in
    let is = subst (λ (n : ℕ). Makes (calls_of (append_events j.area n c.args.payload.now)) told new) c.self.invariant.1 c.in-Ok-store.ensures.ok in
    rw (← c.self.view_is) (append_rests c.args.payload.now held ok told new (g.D.Device.keeps_model c.args.disk.now) is)

pub returns-in-Ok-store-clause-fits : goal.returns-in-Ok-store-clause-fits
returns-in-Ok-store-clause-fits g c = λ whole.
    let j = c.self.inside in
    let held : Held = record { area = j.area; payloads = j.stock.payloads; broken = j.broken } in
    let told = g.D.Device.told c.args.disk.now in
    let new = g.D.Device.told c.store.new.disk in
    let is = subst (λ (n : ℕ). Makes (calls_of (append_events j.area n c.args.payload.now)) told new) c.self.invariant.1 c.in-Ok-store.ensures.ok in
    let longer = c.push.ensures.pushed ∙ ap (λ (l : List (List ℕ)). l ++ c.args.payload.now ∷ []) c.reserve.ensures.same in
    let fits : Fits held told = subst (λ (s : JournalState). Fits s.held told) (sym c.self.view_is) (c.requires.fits (subst (λ (s : JournalState). s.held.broken ≡ false) c.self.view_is whole)) in
    append_fits c.args.payload.now held c.push.new.self.payloads told new fits longer is

pub returns-in-Err-store-clause-answers : goal.returns-in-Err-store-clause-answers
returns-in-Err-store-clause-answers g c =
    let j = c.self.inside in
    let told = g.D.Device.told c.args.disk.now in
    let new = g.D.Device.told c.store.new.disk in
    let left : Held = record { area = j.area; payloads = c.reserve.new.self.payloads; broken = true } in
    subst (λ (s : JournalState). AppendAnswers c.args.payload.now s.held left told new (Err Disk)) c.self.view_is (
      c.if-self.false,
      ap (λ (l : List (List ℕ)). let h : Held = record { area = j.area; payloads = l; broken = true } in h) c.reserve.ensures.same,
      subst (λ (n : ℕ). FailsAmong (calls_of (append_events j.area n c.args.payload.now)) told new) c.self.invariant.1 c.in-Err-store.ensures.err,
    )

pub returns-in-Err-store-clause-stops : goal.returns-in-Err-store-clause-stops
returns-in-Err-store-clause-stops g c =
    let j = c.self.inside in
    let held : Held = record { area = j.area; payloads = j.stock.payloads; broken = j.broken } in
    let told = g.D.Device.told c.args.disk.now in
    let new = g.D.Device.told c.store.new.disk in
    let ok : IsPayload c.args.payload.now = (c.requires.least, c.requires.most) in
    let fails = subst (λ (n : ℕ). FailsAmong (calls_of (append_events j.area n c.args.payload.now)) told new) c.self.invariant.1 c.in-Err-store.ensures.err in
    rw (← c.self.view_is) (append_stops c.args.payload.now held ok told new (g.D.Device.keeps_model c.store.new.disk) (adds_some c.args.payload.now held ok told new fails))
