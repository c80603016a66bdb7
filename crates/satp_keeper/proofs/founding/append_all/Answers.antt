use Rattle.std.proofs.Common.{◌≡◌, ◌∙◌, Some, refl, ap, sym, ⊎_elim, arith}
use Rattle.satp_journal.specs.State.{Held}
use Rattle.satp_journal.specs.declared.fault.JournalFault.TheVariants.{Memory}
use Rattle.satp_keeper.proofs.FoundCalls.{stored_fails, stored_none, stored_on}
use Rattle.satp_keeper.proofs.FoundLemmas.{list_none, list_on, payload_at, room_left, taken_more}
use Rattle.satp_keeper.proofs.Steps.{some_at}
use Rattle.satp_keeper.proofs.Storing.{append_failed, appended_rests}
use Rattle.satp_keeper.proofs.founding.append_all.Given as Given
use Rattle.satp_keeper.proofs.founding.append_all.Goals as goal

pub loop-index-init : goal.loop-index-init
loop-index-init g c =
    let told = g.D.Device.told c.args.disk.now in
    let held = c.args.journal.now.held in
    (c.requires.area, c.requires.whole, c.requires.fits, c.requires.rests, list_none c.args.texts.now held.payloads told c.requires.empty, stored_none c.args.texts.now told, omega (arith, c.requires.records), omega (arith, c.requires.bytes), refl, refl, g.D.Device.beside_same c.args.disk.now)

pub unreachable-requires : goal.unreachable-requires
unreachable-requires g c =
    let there = some_at c.args.texts.now c.loop-index.index (omega (arith, c.length-index-end.ensures, c.loop-index-test.true)) in
    let both = c.in_default.ensures ∙ there.1 in cc

pub append-requires-clause-least : goal.append-requires-clause-least
append-requires-clause-least g c = (payload_at c.args.texts.now c.loop-index.index c.bytes.result.now c.requires.payloads (sym c.in-Some.ensures ∙ ap Some (sym c.bytes.ensures))).0

pub append-requires-clause-most : goal.append-requires-clause-most
append-requires-clause-most g c = (payload_at c.args.texts.now c.loop-index.index c.bytes.result.now c.requires.payloads (sym c.in-Some.ensures ∙ ap Some (sym c.bytes.ensures))).1

-- the room is there, so memory isn't what it failed for
enough : (g : Given.Over) → (c : goal.In-Err g) → c.in-Err.field-0 ≡ Memory → ⊥
enough g c memory =
    let is = c.loop-index.invariant in
    let at = sym c.in-Some.ensures ∙ ap Some (sym c.bytes.ensures) in
    ⊎_elim (λ h. omega (arith, h, is.6, c.length-index-end.ensures, c.loop-index-test.true)) (λ h. omega (arith, h, room_left c.args.texts.now c.loop-index.index c.bytes.result.now c.loop-index.journal.spare_bytes at is.7)) (c.in-Err.ensures.memory memory)

pub returns-in-Err-clause-cause : goal.returns-in-Err-clause-cause
returns-in-Err-clause-cause g c =
    let failed = append_failed c.bytes.result.now c.loop-index.journal.held c.append.new.self.held (g.D.Device.told c.loop-index.disk) (g.D.Device.told c.append.new.disk) c.in-Err.field-0 c.loop-index.invariant.1 (enough g c) c.in-Err.ensures.answers in
    record { later = omega (arith, c.loop-index.invariant.9, c.in-Err.ensures.later); kept = tt; failed = omega (arith, c.loop-index.invariant.9, c.in-Err.ensures.cause failed.0) }

pub returns-in-Err-clause-err : goal.returns-in-Err-clause-err
returns-in-Err-clause-err g c =
    let told = g.D.Device.told c.loop-index.disk in
    let behind = g.D.Device.told c.append.new.disk in
    let held = c.loop-index.journal.held in
    let is = c.loop-index.invariant in
    let at = sym c.in-Some.ensures ∙ ap Some (sym c.bytes.ensures) in
    let failed = append_failed c.bytes.result.now held c.append.new.self.held told behind c.in-Err.field-0 is.1 (enough g c) c.in-Err.ensures.answers in
    stored_fails c.args.texts.now held c.bytes.result.now c.loop-index.index (g.D.Device.told c.args.disk.now) told behind at is.4 is.0 is.5 failed.2

pub loop-index-preserved : goal.loop-index-preserved
loop-index-preserved g c =
    let told = g.D.Device.told c.loop-index.disk in
    let behind = g.D.Device.told c.append.new.disk in
    let texts = c.args.texts.now in
    let i = c.loop-index.index in
    let q = c.bytes.result.now in
    let held = c.loop-index.journal.held in
    let new = c.append.new.self.held in
    let is = c.loop-index.invariant in
    let a = c.in-Ok.ensures.answers in
    let at = sym c.in-Some.ensures ∙ ap Some (sym c.bytes.ensures) in
    let whole = ap (λ (h : Held). h.broken) a.1 ∙ is.1 in (
      ap (λ (h : Held). h.area) a.1 ∙ is.0,
      whole,
      c.in-Ok.ensures.fits whole,
      appended_rests q held new told behind is.3 a c.in-Ok.ensures.rests,
      list_on texts held new q i told behind at is.4 a,
      stored_on texts held q i (g.D.Device.told c.args.disk.now) told behind at is.4 is.0 is.5 a.2,
      omega (arith, is.6, c.in-Ok.ensures.records),
      omega (arith, is.7, c.in-Ok.ensures.bytes, taken_more texts i q at),
      c.in-Ok.ensures.ledger ∙ is.8,
      c.in-Ok.ensures.kept ∙ is.9,
      g.D.Device.beside_then c.args.disk.now c.loop-index.disk c.append.new.disk is.10 c.in-Ok.ensures.beside,
    )
