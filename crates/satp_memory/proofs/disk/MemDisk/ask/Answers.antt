use Rattle.std.proofs.Common.{◌∙◌, ℕ, true, [], ◌∷◌, Some, false, ap, refl, sym, inl, inr}
use Rattle.std.proofs.lemmas.List.{append-nil}
use Rattle.satp_memory.specs.Calling.{Calling, wanting}
use Rattle.satp_memory.proofs.Following.{ask_by, is_failed, is_wanting, kept_last, reached_same, ask_noted, counted_counts, follows_still, ledger_fails, ledger_goes, ledger_wants, not_stopped, refused_is, told_is, trail_is, trail_same}
use Rattle.satp_memory.proofs.disk.MemDisk.ask.Goals as goal

pub returns-then-is_err-clause-err : goal.returns-then-is_err-clause-err
returns-then-is_err-clause-err c =
    let room = c.find_room.ensures in
    let count = ap (λ (k : Calling). k.count) room.calls ∙ c.begin-fails.ensures.told in
    inr (ap Some (told_is (trail_same room.start room.past room.events) room.dirs (ap (λ (k : Calling). k.count) c.want.ensures.counted ∙ count) (ap (λ (k : Calling). k.last_failed) c.want.ensures.counted ∙ ap Some count) room.asks))

pub returns-then-is_err-clause-failed : goal.returns-then-is_err-clause-failed
returns-then-is_err-clause-failed c =
    let room = c.find_room.ensures in
    inr (is_wanting c.is_barred-barred.result _ _ (c.want.ensures.counted ∙ ap wanting (room.calls ∙ c.begin-fails.ensures.counted)), room.asks)

pub returns-then-is_err-clause-ended : goal.returns-then-is_err-clause-ended
returns-then-is_err-clause-ended c = ledger_wants _ _ _ _ c.is_barred-barred.ensures _ (c.want.ensures.counted ∙ ap wanting (c.find_room.ensures.calls ∙ c.begin-fails.ensures.counted))

pub returns-then-is_err-clause-beside : goal.returns-then-is_err-clause-beside
returns-then-is_err-clause-beside c =
    let room = c.find_room.ensures in
    follows_still _ _ [] room.start room.past room.events (room.asks ∙ sym (append-nil _)) room.stop (counted_counts c.is_barred-barred.result _ _ (inr (c.want.ensures.counted ∙ ap wanting (room.calls ∙ c.begin-fails.ensures.counted)))) refl

pub returns-then-fails-clause-err : goal.returns-then-fails-clause-err
returns-then-fails-clause-err c =
    let room = c.find_room.ensures in
    let note = c.note.ensures in
    inl (ap Some (told_is (trail_same (note.start ∙ room.start) (note.past ∙ room.past) (note.events ∙ room.events)) (note.dirs ∙ room.dirs)
    (ap (λ (k : Calling). k.count) (note.calls ∙ room.calls) ∙ c.begin-fails.ensures.told) (ap (λ (k : Calling). k.last_failed) (note.calls ∙ room.calls) ∙ c.begin-fails.ensures.failed c.if-fails.true)
    (ask_noted c.args.call false note.asks room.asks c.count-before.ensures)))

pub returns-then-fails-clause-noted : goal.returns-then-fails-clause-noted
returns-then-fails-clause-noted c = inl (ask_noted c.args.call false c.note.ensures.asks c.find_room.ensures.asks c.count-before.ensures)

pub returns-then-fails-clause-failed : goal.returns-then-fails-clause-failed
returns-then-fails-clause-failed c =
    let fails = sym c.begin-fails.ensures.refused ∙ c.if-fails.true in
    let calls = c.note.ensures.calls ∙ (c.find_room.ensures.calls ∙ c.begin-fails.ensures.counted) in
    inl (sym (refused_is _ _ _ c.args.self.now.calls c.is_barred-barred.ensures) ∙ fails, is_failed c.is_barred-barred.result c.args.self.now.calls _ fails calls, ask_noted c.args.call false c.note.ensures.asks c.find_room.ensures.asks c.count-before.ensures)

pub returns-then-fails-clause-ended : goal.returns-then-fails-clause-ended
returns-then-fails-clause-ended c = ledger_fails _ _ _ _ c.is_barred-barred.ensures _ (sym c.begin-fails.ensures.refused ∙ c.if-fails.true) (c.note.ensures.calls ∙ (c.find_room.ensures.calls ∙ c.begin-fails.ensures.counted))

pub returns-then-fails-clause-beside : goal.returns-then-fails-clause-beside
returns-then-fails-clause-beside c =
    let room = c.find_room.ensures in
    let note = c.note.ensures in
    follows_still _ _ (ask_by c.args.call c.count-before.result false ∷ []) (note.start ∙ room.start) (note.past ∙ room.past) (note.events ∙ room.events) (ask_noted c.args.call false note.asks room.asks refl) (note.stop ∙ room.stop)
    (counted_counts c.is_barred-barred.result _ _ (inl (note.calls ∙ (room.calls ∙ c.begin-fails.ensures.counted)))) refl

pub returns-clause-ok : goal.returns-clause-ok
returns-clause-ok c =
    let room = c.find_room.ensures in
    let kept = kept_last c.is_barred-barred.result c.args.self.now.calls c.find_room.new.self.calls (sym c.begin-fails.ensures.refused ∙ c.if-fails.false) (room.calls ∙ c.begin-fails.ensures.counted) in (
      ap (λ (n : ℕ). ask_by c.args.call n true) c.count-before.ensures,
      told_is (trail_is room.start room.past room.events) room.dirs (ap (λ (k : Calling). k.count) room.calls ∙ c.begin-fails.ensures.told) kept room.asks,
      reached_same room.stop room.events ∙ not_stopped _ _ (sym c.is_barred-barred.ensures ∙ not_stopped _ _ (sym c.begin-fails.ensures.refused ∙ c.if-fails.false)),
    )

pub returns-clause-ended : goal.returns-clause-ended
returns-clause-ended c = ledger_goes _ _ _ _ c.is_barred-barred.ensures _ (sym c.begin-fails.ensures.refused ∙ c.if-fails.false) (c.find_room.ensures.calls ∙ c.begin-fails.ensures.counted)

pub returns-clause-beside : goal.returns-clause-beside
returns-clause-beside c =
    let room = c.find_room.ensures in
    follows_still _ _ [] room.start room.past room.events (room.asks ∙ sym (append-nil _)) room.stop (counted_counts c.is_barred-barred.result _ _ (inl (room.calls ∙ c.begin-fails.ensures.counted))) refl
