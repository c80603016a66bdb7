use Rattle.std.specs.List.{flat_map}
use Rattle.std.specs.Prelude.{slice_index}
use Rattle.std.proofs.Common.{◌≡◌, ◌≢◌, ◌<◌, ◌≤◌, ◌⊎◌, ℕ, zero, suc, List, [], ◌∷◌, ◌++◌, length, take, Some, refl, sym, ap, ◌∙◌, subst, inl, inr, arith, lit<, rules, length-append}
use Rattle.satp_base.specs.Calls.{Told, made}
use Rattle.satp_base.specs.Format.{Damage, EndsAt, IsMendable, IsPayload, Stands, StandsOpened, records}
use Rattle.satp_base.specs.Segments.{IsCut, open_events}
use Rattle.satp_base.specs.Laws.{IsEither, IsInAppend, IsInMend}
use Rattle.satp_base.specs.Trail.{IsImage, KeepsModel, Trail, extended}
use Rattle.satp_base.specs.declared.area.Area.TheVariants.{JournalA}
use Rattle.satp_base.specs.declared.area.Event.{Event}
use Rattle.satp_base.specs.declared.area.Event.TheVariants.{Wrote, Cut, Left}
use Rattle.satp_base.proofs.Closing.{append_ends, either_stands}
use Rattle.satp_base.proofs.Readings.{never_both, one_end, one_list}
use Rattle.satp_base.proofs.Reopens.{reopen_leaves}
use Rattle.satp_base.proofs.Standings.{one_free, only_settled, take_nil}
use Rattle.satp_base.proofs.Trails.{keeps_front}
use Rattle.satp_journal.proofs.AppendLemmas.{Keeps, append_rests, append_stops}
use Rattle.satp_journal.proofs.OpenLemmas.{OpensBy as Cuts, in_opening}
use Rattle.satp_journal.specs.Appending.{AtEach}
use Rattle.satp_journal.specs.Opening.{IsInOpening}
use Rattle.satp_examples.specs.Appending.{append, at_rest, closed, damaged, held, uncalled, with_both}
use Rattle.satp_examples.specs.Disks.{behind, one_write, three}
use Rattle.satp_examples.specs.Journals.{abc, abc_then, d}
use Rattle.satp_examples.specs.JournalStops.{AppendsBy, HasAnyByte, OpensBy, StaysInAppend, in_the_write, shut}
use Rattle.satp_examples.specs.Segments.{frame, gate, synced}
use Rattle.satp_examples.proofs.Images.{at_start, both, is_damaged, is_whole, no_gate}
use Rattle.satp_examples.proofs.Mends.{closed_opens_not}
use Rattle.satp_examples.proofs.journal_stops.law_journal_stops.Goals as goal

unlike : (x y : ℕ) → (x < y) ⊎ (y < x) → x ≡ y → ⊥
unlike x y (inl h) e = omega (arith, h, e)
unlike x y (inr h) e = omega (arith, h, e)

-- ---- at each event

any_byte : (n : ℕ) (image : List ℕ) → IsImage (extended (behind []) (take n one_write)) JournalA image → HasAnyByte (take n one_write) image
any_byte zero image is = (2, only_settled three image is)
any_byte (suc zero) image is = (_, one_free three image 1 9 (lit< tt) is)
any_byte (suc (suc n)) image is = (_, one_free three image 1 9 (lit< tt) is)

only_before : ¬ AtEach JournalA (behind []) (behind one_write) (λ events image. events ≡ [])
only_before (events, is, at) = let same : one_write ≡ events = ap (λ (t : Trail). t.events) is in
    let none : take 1 events ≡ [] = at 1 three (subst (λ es. IsImage (extended (behind []) (take 1 es)) JournalA three) same (search rules)) in
    let bad : take 1 one_write ≡ [] = subst (λ es. take 1 es ≡ []) (sym same) none in absurd cc

only_behind : ¬ AtEach JournalA (behind []) (behind one_write) (λ events image. events ≡ one_write)
only_behind (events, is, at) = let bad : [] ≡ one_write = at 0 three (search rules) in absurd cc

only_new : ¬ AtEach JournalA (behind []) (behind one_write) (λ events image. image ≡ 1 ∷ 9 ∷ 3 ∷ [])
only_new (events, is, at) = let bad = at 0 three (search rules) in absurd cc

fewer : ¬ AtEach JournalA (behind one_write) (behind []) HasAnyByte
fewer (events, is, at) = let bad : [] ≡ one_write ++ events = ap (λ (t : Trail). t.events) is in absurd cc

pub returns-clause-each : goal.returns-clause-each
returns-clause-each c = record {
  all_of_a_write = (one_write, refl, any_byte);
  not_only_before = only_before;
  not_only_behind = only_behind;
  not_only_the_new_byte = only_new;
  not_of_fewer_events = fewer;
}

-- ---- an append

d_fits : IsPayload d
d_fits = search rules

no_damage : (image : List ℕ) (at : ℕ) → Damage image at → IsInAppend (abc ∷ []) d image → ⊥
no_damage image at damage w = elim (either_stands (abc ∷ []) d image d_fits w) [
  | inl s ↦ never_both image _ at s damage
  | inr s ↦ never_both image _ at s damage
]

-- what is said at one event, of the events that are there
at_event : (events : List Event) → AppendsBy events → (n : ℕ) (image : List ℕ) → IsImage (extended at_rest.trail (take n events)) JournalA image → IsInAppend (abc ∷ []) d image
at_event events h n image is = let all = h (abc ∷ []) refl at_start in let same : events ≡ all.0 = ap (λ (t : Trail). t.events) all.1 in
    all.2 n image (subst (λ es. IsImage (extended at_rest.trail (take n es)) JournalA image) same is)

other_both : Stands (abc_then (1 ∷ 0 ∷ 1 ∷ 101 ∷ 0 ∷ [])) (abc ∷ (101 ∷ []) ∷ [])
other_both = search rules

other_payload : IsInAppend (abc ∷ []) d (abc_then (1 ∷ 0 ∷ 1 ∷ 101 ∷ 0 ∷ [])) → ⊥
other_payload w = elim (either_stands (abc ∷ []) d _ d_fits w) [
  | inl s ↦ let same = one_list _ _ _ s other_both in absurd cc
  | inr s ↦ let same = one_list _ _ _ s other_both in unlike 100 101 (inl (lit< tt)) (ap (λ qs. slice_index (flat_map (λ q. q) qs) 3) same)
]

abbrev xbc : List ℕ
xbc = 1 ∷ 0 ∷ 3 ∷ 120 ∷ 98 ∷ 99 ∷ 0 ∷ []

xbc_stands : Stands xbc ((120 ∷ 98 ∷ 99 ∷ []) ∷ [])
xbc_stands = search rules

over_payload : IsInAppend (abc ∷ []) d xbc → ⊥
over_payload w = elim (either_stands (abc ∷ []) d _ d_fits w) [
  | inl s ↦ let same = one_list _ _ _ s xbc_stands in unlike 97 120 (inl (lit< tt)) (ap (λ qs. slice_index (flat_map (λ q. q) qs) 0) same)
  | inr s ↦ let same = one_list _ _ _ s xbc_stands in absurd cc
]

some_same : (t u : Told) → Some t ≡ Some u → t ≡ u
some_same t u e = cc

keeps_told : (t : Told) → KeepsModel t.trail → Keeps (Some t)
keeps_told t keeps u is = subst (λ (x : Told). KeepsModel x.trail) (some_same t u is) keeps

keeps_append : KeepsModel (extended at_rest.trail append)
keeps_append area = (tt, (tt, (tt, (tt, tt))))

keeps_gate : KeepsModel (extended at_rest.trail (frame ∷ synced ∷ gate ∷ []))
keeps_gate area = (tt, (tt, (tt, tt)))

whole : AppendsBy append
whole = append_stops d (held (abc ∷ [])) d_fits (Some at_rest) (Some (made 4 append at_rest)) (keeps_told _ keeps_append) (append, (4, inl refl), refl)

up_to_gate : AppendsBy (frame ∷ synced ∷ gate ∷ [])
up_to_gate = append_stops d (held (abc ∷ [])) d_fits (Some at_rest) (Some (made 4 (frame ∷ synced ∷ gate ∷ []) at_rest)) (keeps_told _ keeps_gate) (frame ∷ synced ∷ gate ∷ [], (3, inl refl), refl)

pub returns-clause-append : goal.returns-clause-append
returns-clause-append c = record {
  whole = whole;
  up_to_the_gate = up_to_gate;
  not_without_the_first_sync = λ h. no_damage damaged 6 is_damaged (at_event _ h 2 damaged (search rules));
  not_of_another_payload = λ h. other_payload (at_event _ h 3 _ (search rules));
  not_over_a_payload = λ h. over_payload (at_event _ h 1 xbc (search rules));
  not_a_cut_of_the_gate = λ h. no_damage (abc_then []) 0 no_gate (at_event _ h 1 (abc_then []) (search rules));
  rests_behind = λ rests. append_ends at_rest.trail JournalA (abc ∷ []) d (search rules) at_start (λ area. tt);
  not_without_the_last_sync = λ h. unlike 7 1 (inr (lit< tt)) (ap (λ xs. slice_index xs 6) (h at_start in_the_write (search rules)).1.bytes);
  not_without_the_payload = λ h. unlike 1 0 (inr (lit< tt)) (ap (λ xs. slice_index xs 6) (h at_start with_both (search rules)).1.bytes);
  rests = at_start;
  not_with_a_payload_more = λ h. unlike 0 1 (inl (lit< tt)) (ap (λ xs. slice_index xs 6) (h closed (search rules)).1.bytes);
}

-- ---- gates and lists

-- a cut of the first two events is no cut that has the third
no_gate_yet : (events : List Event) → IsCut (take 2 append) events → 2 < length events → (more : List Event) → events ≡ frame ∷ synced ∷ gate ∷ more → ⊥
no_gate_yet events (zero, inl is) long more e = absurd cc
no_gate_yet events (zero, inr (area, bytes, of, is)) long more e = absurd cc
no_gate_yet events (suc zero, inl is) long more e = absurd cc
no_gate_yet events (suc zero, inr (area, bytes, of, is)) long more e = absurd cc
no_gate_yet events (suc (suc n), inl is) long more e = let cut = is ∙ ap (λ (l : List Event). frame ∷ synced ∷ l) (take_nil n) in absurd cc
no_gate_yet events (suc (suc n), inr (area, bytes, of, is)) long more e = let cut = is ∙ ap (λ (l : List Event). frame ∷ synced ∷ l ++ Left area bytes ∷ []) (take_nil n) in absurd cc

not_whole : (front more : List Event) → length front < 4 → front ≡ append ++ more → ⊥
not_whole front more short e = let same : length front ≡ length (append ++ more) = ap length e in omega (arith, short, same, length-append append more)

pub returns-clause-gates : goal.returns-clause-gates
returns-clause-gates c = record {
  closed_before_its_write = record { before = λ cut. refl; after = λ more e. absurd (not_whole (frame ∷ synced ∷ []) more (lit< tt) e) };
  any_byte_in_its_write = record { before = λ cut. absurd (no_gate_yet _ cut (lit< tt) [] refl); after = λ more e. absurd (not_whole (frame ∷ synced ∷ gate ∷ []) more (lit< tt) e) };
  open_after_its_sync = record { before = λ cut. absurd (no_gate_yet _ cut (lit< tt) (synced ∷ []) refl); after = λ more e. refl };
  not_open_before_its_write = λ g. unlike 1 0 (inr (lit< tt)) (g.before (2, inl refl));
  not_another_byte_after_its_sync = λ g. unlike 7 1 (inr (lit< tt)) (g.after [] refl);
}

neither : IsEither (abc ∷ []) d (d ∷ []) → ⊥
neither (inl same) = absurd cc
neither (inr same) = absurd cc

pub returns-clause-lists : goal.returns-clause-lists
returns-clause-lists c = record {
  the_list = append_rests d (held (abc ∷ [])) d_fits (Some at_rest) (Some (made 4 append at_rest)) (keeps_told _ (λ area. tt)) refl;
  another_as_long = append_rests d (held ((120 ∷ 121 ∷ 122 ∷ []) ∷ [])) d_fits (Some at_rest) (Some (made 4 append at_rest)) (keeps_told _ (λ area. tt)) refl;
  not_without_the_last_sync = λ h. unlike 7 1 (inr (lit< tt)) (ap (λ xs. slice_index xs 6) (h (abc ∷ []) refl at_start in_the_write (search rules)).1.bytes);
  shorter = inl refl;
  longer = inr refl;
  neither = neither;
}

-- ---- a mend

seven : ◌≢◌ {A = ℕ} 7 1
seven = search rules

in_write_ends : EndsAt (abc ∷ []) 7 (0 ∷ 1 ∷ 100 ∷ 0 ∷ []) in_the_write
in_write_ends = record { valid = search rules; bytes = refl }

is_list : Stands in_the_write (abc ∷ [])
is_list = search rules

is_opened : StandsOpened in_the_write (abc ∷ d ∷ [])
is_opened = (abc ∷ [], 7, 0 ∷ 1 ∷ 100 ∷ 0 ∷ [], seven, in_write_ends, both)

-- with 1 in place of its gate it stands for this list alone
opened_is : (longer : List (List ℕ)) → StandsOpened in_the_write longer → longer ≡ abc ∷ d ∷ []
opened_is longer (list, g, behind, shuts, ends, stands) =
    let same = one_end (abc ∷ []) list 7 g (0 ∷ 1 ∷ 100 ∷ 0 ∷ []) behind in_the_write in_write_ends ends (inl seven) (inl shuts) in
    one_list with_both longer (abc ∷ d ∷ []) (subst (λ p. Stands (records p ++ 1 ∷ 0 ∷ 1 ∷ 100 ∷ 0 ∷ []) longer) (sym same.payloads) (subst (λ x. Stands (records list ++ 1 ∷ x) longer) (sym same.behind) stands)) both

-- an image of the mend stands for one of the two lists
one_of_two : (image : List ℕ) (list : List (List ℕ)) → Stands image list → IsInMend in_the_write (abc ∷ []) image → (list ≡ abc ∷ []) ⊎ (list ≡ abc ∷ d ∷ [])
one_of_two image list stands (inl s) = inl (one_list image list (abc ∷ []) stands s)
one_of_two image list stands (inr (longer, opened, s)) = inr (subst (λ l. list ≡ l) (opened_is longer opened) (one_list image list longer stands s))

other_mend : IsInMend in_the_write (abc ∷ []) (abc_then (1 ∷ 0 ∷ 1 ∷ 101 ∷ 0 ∷ [])) → ⊥
other_mend m = elim (one_of_two _ _ other_both m) [
  | inl same ↦ absurd cc
  | inr same ↦ unlike 101 100 (inr (lit< tt)) (ap (λ qs. slice_index (flat_map (λ q. q) qs) 3) same)
]

no_payload : Stands (0 ∷ 0 ∷ []) []
no_payload = search rules

no_list : IsInMend in_the_write (abc ∷ []) (0 ∷ 0 ∷ []) → ⊥
no_list m = elim (one_of_two _ _ no_payload m) [
  | inl same ↦ absurd cc
  | inr same ↦ absurd cc
]

not_there : IsInMend closed (abc ∷ []) with_both → ⊥
not_there (inl s) = let same = one_list with_both (abc ∷ []) (abc ∷ d ∷ []) s both in absurd cc
not_there (inr (longer, opened, s)) = closed_opens_not longer opened

pub returns-clause-mend : goal.returns-clause-mend
returns-clause-mend c = record {
  as_it_was = inl is_list;
  with_the_gate_shut = inl (search rules);
  with_the_payload_behind = inr (abc ∷ d ∷ [], is_opened, both);
  not_with_another_payload = other_mend;
  not_without_the_list = no_list;
  not_with_what_was_not_there = not_there;
}

-- ---- an opening

abbrev here : List ℕ → Trail
here image = (uncalled image).trail

-- at each prefix of an opening of an image that stands for `abc`
opening_at : (read : List ℕ) (whole : List Event) (n : ℕ) → Stands read (abc ∷ []) → open_events JournalA read 6 ≡ whole → KeepsModel (extended (here read) whole)
    → (image : List ℕ) → IsImage (extended (here read) (take n whole)) JournalA image → IsInOpening (here read) JournalA (take n whole) image
opening_at read whole n list opens all image is = in_opening (here read) JournalA (take n whole) cuts (keeps_front (here read) whole n all) image is
  where
    cuts : Cuts JournalA (here read) (take n whole)
    cuts payloads stands = subst (λ p. IsCut (open_events JournalA read (length (records p))) (take n whole)) (one_list read (abc ∷ []) payloads list stands) (subst (λ w. IsCut w (take n whole)) (sym opens) (n, inl refl))

keeps_mend : KeepsModel (extended (here in_the_write) (synced ∷ shut ∷ synced ∷ []))
keeps_mend area = (tt, (tt, (tt, tt)))

keeps_sync : KeepsModel (extended (here closed) (synced ∷ []))
keeps_sync area = (tt, tt)

mended_at : (n : ℕ) (image : List ℕ) → IsImage (extended (here in_the_write) (take n (synced ∷ shut ∷ synced ∷ []))) JournalA image → IsInOpening (here in_the_write) JournalA (take n (synced ∷ shut ∷ synced ∷ [])) image
mended_at n image is = opening_at in_the_write (synced ∷ shut ∷ synced ∷ []) n is_list refl keeps_mend image is

mended_up_to_gate : (n : ℕ) (image : List ℕ) → IsImage (extended (here in_the_write) (take n (synced ∷ shut ∷ []))) JournalA image → IsInOpening (here in_the_write) JournalA (take n (synced ∷ shut ∷ [])) image
mended_up_to_gate zero image is = mended_at 0 image is
mended_up_to_gate (suc zero) image is = mended_at 1 image is
mended_up_to_gate (suc (suc zero)) image is = mended_at 2 image is
mended_up_to_gate (suc (suc (suc n))) image is = mended_at 2 image is

in_events : (read : List ℕ) (events : List Event) → OpensBy read events → (n : ℕ) (image : List ℕ) → IsImage (extended (here read) (take n events)) JournalA image → IsInOpening (here read) JournalA (take n events) image
in_events read events (all, is, at) n image left = let same : events ≡ all = ap (λ (t : Trail). t.events) is in
    subst (λ es. IsInOpening (here read) JournalA (take n es) image) (sym same) (at n image (subst (λ es. IsImage (extended (here read) (take n es)) JournalA image) same left))

left_longer : ¬ OpensBy closed (synced ∷ Left JournalA (abc_then (0 ∷ 5 ∷ [])) ∷ [])
left_longer h = let was = (in_events closed _ h 2 (abc_then (0 ∷ 5 ∷ [])) (search rules)).before (1, inr (JournalA, abc_then (0 ∷ 5 ∷ []), refl, refl)) in
    let bad : 8 ≤ 7 = was.no_longer in absurd (omega (arith, bad))

mends : IsMendable in_the_write
mends = inr (inr (abc ∷ d ∷ [], is_opened))

abbrev xbc_then : List ℕ
xbc_then = 1 ∷ 0 ∷ 3 ∷ 120 ∷ 98 ∷ 99 ∷ 7 ∷ 0 ∷ 1 ∷ 100 ∷ 0 ∷ []

xbc_then_stands : Stands xbc_then ((120 ∷ 98 ∷ 99 ∷ []) ∷ [])
xbc_then_stands = search rules

over_list : ¬ OpensBy in_the_write (synced ∷ Wrote JournalA 3 (120 ∷ []) ∷ [])
over_list h = let mend = (in_events in_the_write _ h 2 xbc_then (search rules)).mended _ (abc ∷ []) refl is_list mends in
    elim (one_of_two _ _ xbc_then_stands mend) [
      | inl same ↦ unlike 120 97 (inr (lit< tt)) (ap (λ qs. slice_index (flat_map (λ q. q) qs) 0) same)
      | inr same ↦ absurd cc
    ]

cut_gate : ¬ OpensBy in_the_write (synced ∷ Cut JournalA 6 ∷ [])
cut_gate h = let mend = (in_events in_the_write _ h 2 (abc_then []) (search rules)).mended _ (abc ∷ []) refl is_list mends in
    elim mend [
      | inl s ↦ never_both (abc_then []) _ 0 s no_gate
      | inr longer ↦ never_both (abc_then []) _ 0 longer.2 no_gate
    ]

pub returns-clause-opening : goal.returns-clause-opening
returns-clause-opening c = record {
  at_rest = (synced ∷ [], refl, λ n image is. opening_at closed (synced ∷ []) n is_whole refl keeps_sync image is);
  mended = (synced ∷ shut ∷ synced ∷ [], refl, mended_at);
  up_to_the_gate = (synced ∷ shut ∷ [], refl, mended_up_to_gate);
  not_left_longer_by_the_first_sync = left_longer;
  not_over_a_payload = over_list;
  not_a_cut_of_the_gate = cut_gate;
}

-- ---- an opening after a stop

stored : (gate : ℕ) → IsInAppend (abc ∷ []) d (abc_then (gate ∷ 0 ∷ 1 ∷ 100 ∷ 0 ∷ []))
stored gate = inr (gate, [], record { valid = search rules; bytes = refl })

begins : StaysInAppend in_the_write []
begins image is = subst (IsInAppend (abc ∷ []) d) (sym (only_settled in_the_write image is)) (stored 7)

begins_with_both : StaysInAppend with_both []
begins_with_both image is = subst (IsInAppend (abc ∷ []) d) (sym (only_settled with_both image is)) (stored 1)

keeps_shut : KeepsModel (extended (here in_the_write) (synced ∷ shut ∷ []))
keeps_shut area = (tt, (tt, tt))

keeps_both : KeepsModel (extended (here with_both) (synced ∷ []))
keeps_both area = (tt, tt)

abbrev dropped : List ℕ
dropped = 0 ∷ 0 ∷ 3 ∷ 97 ∷ 98 ∷ 99 ∷ 1 ∷ 0 ∷ 1 ∷ 100 ∷ 0 ∷ []

nothing_left : Stands dropped []
nothing_left = search rules

not_dropped : IsInAppend (abc ∷ []) d dropped → ⊥
not_dropped w = elim (either_stands (abc ∷ []) d dropped d_fits w) [
  | inl s ↦ let same = one_list dropped _ [] s nothing_left in absurd cc
  | inr s ↦ let same = one_list dropped _ [] s nothing_left in absurd cc
]

pub returns-clause-reopening : goal.returns-clause-reopening
returns-clause-reopening c = record {
  begins = begins;
  in_the_mend = reopen_leaves (here in_the_write) JournalA (abc ∷ []) (abc ∷ []) d (synced ∷ shut ∷ []) d_fits begins is_list (2, inl refl) keeps_shut;
  mended = reopen_leaves (here in_the_write) JournalA (abc ∷ []) (abc ∷ []) d (synced ∷ shut ∷ synced ∷ []) d_fits begins is_list (3, inl refl) keeps_mend;
  with_both_again = reopen_leaves (here with_both) JournalA (abc ∷ []) (abc ∷ d ∷ []) d (synced ∷ []) d_fits begins_with_both both (1, inl refl) keeps_both;
  not_with_the_record_dropped = λ h. not_dropped (h dropped (search rules));
  not_opened_by_dropping_it = λ h. not_dropped ((in_events with_both _ h 3 dropped (search rules)).again (abc ∷ []) d d_fits begins_with_both);
}
