-- The bytes of a journal have one reply.
use Rattle.std.proofs.Common.{◌≡◌, ◌⊎◌, ◌+◌, ◌<◌, ◌≤◌, ◌∙◌, ℕ, zero, suc, inl, inr, List, [], ◌∷◌, length, take, length-take, refl, sym, ap, subst, arith}
use Rattle.satp_base.specs.Format.{Damage, Stands}
use Rattle.satp_base.proofs.Readings.{one_list, one_damage, never_both}
use Rattle.satp_log.specs.Journals.{IsFirstRefused, IsJournal}
use Rattle.satp_log.proofs.JournalLemmas.{none-refused, one-journal, one-refused}
use Rattle.satp_records.specs.declared.stored.Setup.{Setup}
use Rattle.satp_sides.specs.Points.{Stored}
use Rattle.satp_app.specs.OneEnd.{OneReply}
use Rattle.satp_app.specs.Replay.{journal_form, replay_refuses, replay_says}
use Rattle.satp_outcome.specs.declared.outcome.InputEnd.{InputEnd}
use Rattle.satp_outcome.specs.declared.outcome.InputEnd.TheVariants.{Long, Text, Signature, Kind, Receiver, GenesisLine, ScheduleLine, LogDamaged, LogRecord, LogEmpty}
use Rattle.satp_outcome.specs.declared.reply.Reply.{Reply}
use Rattle.satp_outcome.specs.declared.reply.Reply.TheVariants.{Lines, Refuses}
use Rattle.satp_outcome.proofs.Ends.{IsWhole}
use Rattle.satp_replay.specs.Replaying.{replay_text}

-- ---- the input

take_short : (n : ℕ) (xs : List ℕ) → length xs ≤ n → take n xs ≡ xs
take_short zero [] h = refl
take_short (suc n) [] h = refl
take_short zero (x ∷ xs) h = absurd (omega arith)
take_short (suc n) (x ∷ xs) h = let less : length xs ≤ n = omega arith in ap (λ ys. x ∷ ys) (take_short n xs less)

short : (n : ℕ) (bytes : List ℕ) → length (take (n + 1) bytes) ≤ n → take (n + 1) bytes ≡ bytes
short n bytes h = take_short (n + 1) bytes (omega (arith, length-take (n + 1) bytes, h))

long : (n : ℕ) (bytes : List ℕ) → n < length (take (n + 1) bytes) → n < length bytes
long n bytes h = omega (arith, length-take (n + 1) bytes, h)

pub journal_whole : IsWhole journal_form
journal_whole = record { short = short journal_form.most; long = long journal_form.most }

-- ---- the reply

-- what is replied to these payloads
abbrev Replied : List (List ℕ) → Reply → Type 0
Replied payloads r =
    ((setup : Setup) × (xs : List Stored) × IsJournal payloads setup xs × (r ≡ Lines (replay_text setup xs)))
    ⊎ ((payloads ≡ []) × (r ≡ Refuses LogEmpty))
    ⊎ ((index : ℕ) × IsFirstRefused payloads index × (r ≡ Refuses (LogRecord index)))

-- the bytes are damaged, or they stand for payloads
abbrev Way : List ℕ → Reply → Type 0
Way bytes r = ((at : ℕ) × Damage bytes at × (r ≡ Refuses (LogDamaged at))) ⊎ ((payloads : List (List ℕ)) × Stands bytes payloads × Replied payloads r)

refused_way : (bytes : List ℕ) (end : InputEnd) → replay_refuses bytes end → Way bytes (Refuses end)
refused_way bytes (LogDamaged at) is = inl (at, is, refl)
refused_way bytes LogEmpty is = inr ([], is, inr (inl (refl, refl)))
refused_way bytes (LogRecord index) is = inr (is.0, is.1, inr (inr (index, is.2, refl)))
refused_way bytes Long is = absurd is
refused_way bytes (Text fault) is = absurd is
refused_way bytes (Signature fault) is = absurd is
refused_way bytes Kind is = absurd is
refused_way bytes Receiver is = absurd is
refused_way bytes (GenesisLine number) is = absurd is
refused_way bytes (ScheduleLine number) is = absurd is

way : (bytes : List ℕ) (r : Reply) → replay_says bytes r → Way bytes r
way bytes (Lines lines) (payloads, stands, (setup, xs, journal, is)) = inr (payloads, stands, inl (setup, xs, journal, ap Lines is))
way bytes (Refuses end) is = refused_way bytes end is

one_replied : (payloads : List (List ℕ)) (r s : Reply) → Replied payloads r → Replied payloads s → r ≡ s
one_replied payloads r s (inl (setup, xs, journal, is)) (inl (other, ys, again, also)) =
    let same = one-journal payloads setup other xs ys journal again in
    is ∙ (λ i. Lines (replay_text (same.0 i) (same.1 i))) ∙ sym also
one_replied payloads r s (inl (setup, xs, journal, is)) (inr (inl (none, also))) = absurd ((none-refused payloads (setup, xs, journal)).0 none)
one_replied payloads r s (inl (setup, xs, journal, is)) (inr (inr (index, refused, also))) = absurd ((none-refused payloads (setup, xs, journal)).1 index refused)
one_replied payloads r s (inr (inl (none, is))) (inl (setup, xs, journal, also)) = absurd ((none-refused payloads (setup, xs, journal)).0 none)
one_replied payloads r s (inr (inl (none, is))) (inr (inl (again, also))) = is ∙ sym also
one_replied payloads r s (inr (inl (none, is))) (inr (inr (index, refused, also))) = let empty : length payloads ≡ 0 = ap length none in absurd (omega (arith, refused.within, empty))
one_replied payloads r s (inr (inr (index, refused, is))) (inl (setup, xs, journal, also)) = absurd ((none-refused payloads (setup, xs, journal)).1 index refused)
one_replied payloads r s (inr (inr (index, refused, is))) (inr (inl (none, also))) = let empty : length payloads ≡ 0 = ap length none in absurd (omega (arith, refused.within, empty))
one_replied payloads r s (inr (inr (index, refused, is))) (inr (inr (other, again, also))) = is ∙ ap (λ (n : ℕ). Refuses (LogRecord n)) (one-refused payloads index other refused again) ∙ sym also

one_way : (bytes : List ℕ) (r s : Reply) → Way bytes r → Way bytes s → r ≡ s
one_way bytes r s (inl (at, damage, is)) (inl (other, again, also)) = is ∙ ap (λ (n : ℕ). Refuses (LogDamaged n)) (one_damage bytes at other damage again) ∙ sym also
one_way bytes r s (inl (at, damage, is)) (inr (payloads, stands, replied)) = absurd (never_both bytes payloads at stands damage)
one_way bytes r s (inr (payloads, stands, replied)) (inl (at, damage, is)) = absurd (never_both bytes payloads at stands damage)
one_way bytes r s (inr (payloads, stands, replied)) (inr (others, again, also)) =
    one_replied payloads r s replied (subst (λ (ps : List (List ℕ)). Replied ps s) (one_list bytes others payloads again stands) also)

pub one_replay : OneReply journal_form replay_says
one_replay bytes r s short a b = one_way bytes r s (way bytes r a) (way bytes s b)
