-- Reading several fields, and a whole payload: either it was spelled so, or it has its first fault.
use Rattle.std.proofs.Common.{◌≡◌, ℕ, ◌+◌, ◌<◌, ◌≤◌, ◌==◌, ◌⊎◌, Bool, true, false, cond, nat_lt, List, [], ◌∷◌, ◌++◌, length, drop, Option, Some, None, option_map, Result, Ok, Err, refl, sym, ap, subst, ◌∙◌, append_assoc, arith, inl, inr}
use Rattle.std.specs.Prelude.{find, is_some}
use Rattle.std.specs.List.{list_all}
use Rattle.std.proofs.lemmas.Bool.{and_parts, ltb-true, ltb-false}
use Rattle.std.proofs.lemmas.List.{append-nil, length-append, length-drop, nil_from_length}
use Rattle.satp_records.specs.Shapes.{Shape, spell, Fits}
use Rattle.satp_records.specs.Formats.{Format, format_of, formats, joined, shapes_of, spell_all, IsFault, IsFaultBehind, IsRefused}
use Rattle.satp_records.specs.Reading.{◌>>=◌, field_at, fields_at, parts_at, behind, whole}
use Rattle.satp_records.specs.declared.fault.RecordFault.{RecordFault}
use Rattle.satp_records.specs.declared.fault.RecordFault.TheVariants as fault
use Rattle.satp_records.proofs.Fields.{IsBytes, is_sound, IsSound, Took, Outcome, outcome, says, no_fault, one_field, one_fault}

-- the bytes may stand in fields of these shapes
abbrev pub FitsAll : List Shape → List (List ℕ) → List (List ℕ) → Type 0
FitsAll [] before [] = Unit {0}
FitsAll [] before (bytes ∷ fields) = ⊥
FitsAll (s ∷ shapes) before [] = ⊥
FitsAll (s ∷ shapes) before (bytes ∷ fields) = Fits s before bytes × FitsAll shapes (before ++ bytes ∷ []) fields

abbrev pub AllSound : List Shape → Type 0
AllSound [] = Unit {0}
AllSound (s ∷ shapes) = IsSound s × AllSound shapes

-- ---- fields

pub record TookAll (shapes : List Shape) (before : List (List ℕ)) (payload : List ℕ) (at : ℕ) (fields : List (List ℕ)) (next : ℕ) : Type 0 where
  pub is : fields_at shapes before payload at ≡ Ok (fields, next)
  pub parts : drop at payload ≡ spell_all shapes fields ++ drop next payload
  pub place : next ≡ at + length (spell_all shapes fields)
  pub fits : FitsAll shapes before fields
  pub within : next ≤ length payload

pub record FailedAll (shapes : List Shape) (before : List (List ℕ)) (payload : List ℕ) (at : ℕ) (f : RecordFault) : Type 0 where
  pub is : fields_at shapes before payload at ≡ Err f
  pub fault : IsFault shapes before at (drop at payload) f

abbrev pub OutcomeAll : List Shape → List (List ℕ) → List ℕ → ℕ → Type 0
OutcomeAll shapes before payload at = ((fields : List (List ℕ)) × (next : ℕ) × TookAll shapes before payload at fields next) ⊎ ((f : RecordFault) × FailedAll shapes before payload at f)

then_all : (s : Shape) (shapes : List Shape) (before : List (List ℕ)) (payload : List ℕ) (at : ℕ) (bytes : List ℕ) (n : ℕ) → Took s before payload at bytes n → OutcomeAll shapes (before ++ bytes ∷ []) payload n → OutcomeAll (s ∷ shapes) before payload at
then_all s shapes before payload at bytes n t (inl (fields, next, u)) =
    inl (
      bytes ∷ fields,
      next,
      record {
        is = rw (t.is, u.is) refl;
        parts = t.parts ∙ ap (λ xs. spell s bytes ++ xs) u.parts ∙ sym (append_assoc (spell s bytes) (spell_all shapes fields) (drop next payload));
        place = omega (arith, t.place, u.place, length-append (spell s bytes) (spell_all shapes fields));
        fits = (t.fits, u.fits);
        within = u.within;
      },
    )
then_all s shapes before payload at bytes n t (inr (f, u)) =
    inr (
      f,
      record {
        is = rw (t.is, u.is) refl;
        fault = inr (bytes, drop n payload, t.fits, t.parts, subst (λ k. IsFault shapes (before ++ bytes ∷ []) k (drop n payload) f) t.place u.fault);
      },
    )

from_first : (s : Shape) (shapes : List Shape) (before : List (List ℕ)) (payload : List ℕ) (at : ℕ) → Outcome s before payload at
    → ((bytes : List ℕ) (n : ℕ) → n ≤ length payload → OutcomeAll shapes (before ++ bytes ∷ []) payload n) → OutcomeAll (s ∷ shapes) before payload at
from_first s shapes before payload at (inl (bytes, n, t)) later = then_all s shapes before payload at bytes n t (later bytes n t.within)
from_first s shapes before payload at (inr (f, t)) later = inr (f, record { is = rw t.is refl; fault = inl t.fault })

pub outcome_all : (shapes : List Shape) (before : List (List ℕ)) (payload : List ℕ) (at : ℕ) → IsBytes payload → at ≤ length payload → OutcomeAll shapes before payload at
outcome_all [] before payload at fits within = inl ([], at, record { is = refl; parts = refl; place = omega arith; fits = tt; within = within })
outcome_all (s ∷ shapes) before payload at fits within =
    from_first s shapes before payload at (outcome s before payload at fits within) (λ bytes n le. outcome_all shapes (before ++ bytes ∷ []) payload n fits le)

-- ---- what is spelled has no fault, and is one thing

pub no_fault_all : (shapes : List Shape) (before : List (List ℕ)) (at : ℕ) (fields : List (List ℕ)) (rest : List ℕ) (f : RecordFault) → AllSound shapes → FitsAll shapes before fields → rest ≡ spell_all shapes fields
    → IsFault shapes before at rest f → ⊥
no_fault_all [] before at [] rest f sound fits e h = omega (arith, h.0, ap length e)
no_fault_all [] before at (bytes ∷ fields) rest f sound fits e h = fits
no_fault_all (s ∷ shapes) before at [] rest f sound fits e h = fits
no_fault_all (s ∷ shapes) before at (bytes ∷ fields) rest f sound fits e (inl h) = no_fault s before at bytes rest f fits.0 (says s before bytes (spell_all shapes fields) rest sound.0 fits.0 e) h
no_fault_all (s ∷ shapes) before at (bytes ∷ fields) rest f sound fits e (inr h) =
    let same = one_field s before bytes (spell_all shapes fields) h.0 h.1 sound.0 fits.0 h.2 (sym e ∙ h.3) in
    no_fault_all shapes (before ++ bytes ∷ []) (at + length (spell s h.0)) fields h.1 f sound.1 fits.1 (sym same.1) (subst (λ b. IsFault shapes (before ++ b ∷ []) (at + length (spell s h.0)) h.1 f) (sym same.0) h.4)

pub one_fields : (shapes : List Shape) (before xs ys : List (List ℕ)) → AllSound shapes → FitsAll shapes before xs → FitsAll shapes before ys → spell_all shapes xs ≡ spell_all shapes ys → xs ≡ ys
one_fields [] before [] [] sound p q e = refl
one_fields [] before [] (y ∷ ys) sound p q e = absurd q
one_fields [] before (x ∷ xs) ys sound p q e = absurd p
one_fields (s ∷ shapes) before [] ys sound p q e = absurd p
one_fields (s ∷ shapes) before (x ∷ xs) [] sound p q e = absurd q
one_fields (s ∷ shapes) before (x ∷ xs) (y ∷ ys) sound p q e =
    let same = one_field s before x (spell_all shapes xs) y (spell_all shapes ys) sound.0 p.0 q.0 e in
    let rest : xs ≡ ys = one_fields shapes (before ++ x ∷ []) xs ys sound.1 p.1 (subst (λ b. FitsAll shapes (before ++ b ∷ []) ys) (sym same.0) q.1) same.1 in
    ap (λ b. b ∷ xs) same.0 ∙ ap (λ bs. y ∷ bs) rest

pub one_fault_all : (shapes : List Shape) (before : List (List ℕ)) (at : ℕ) (rest : List ℕ) (f g : RecordFault) → AllSound shapes → IsFault shapes before at rest f → IsFault shapes before at rest g → f ≡ g
one_fault_all [] before at rest f g sound p q = p.1 ∙ sym q.1
one_fault_all (s ∷ shapes) before at rest f g sound (inl p) (inl q) = one_fault s before at rest f g p q
one_fault_all (s ∷ shapes) before at rest f g sound (inl p) (inr q) = absurd (no_fault s before at q.0 rest f q.2 (says s before q.0 q.1 rest sound.0 q.2 q.3) p)
one_fault_all (s ∷ shapes) before at rest f g sound (inr p) (inl q) = absurd (no_fault s before at p.0 rest g p.2 (says s before p.0 p.1 rest sound.0 p.2 p.3) q)
one_fault_all (s ∷ shapes) before at rest f g sound (inr p) (inr q) =
    let same = one_field s before q.0 q.1 p.0 p.1 sound.0 q.2 p.2 (sym q.3 ∙ p.3) in
    let moved : IsFault shapes (before ++ p.0 ∷ []) (at + length (spell s p.0)) p.1 g =
    subst (λ xs. IsFault shapes (before ++ p.0 ∷ []) (at + length (spell s p.0)) xs g) same.1 (subst (λ b. IsFault shapes (before ++ b ∷ []) (at + length (spell s b)) q.1 g) same.0 q.4) in
    one_fault_all shapes (before ++ p.0 ∷ []) (at + length (spell s p.0)) p.1 f g sound.1 p.4 moved

-- bytes behind the last field
pub extra : (shapes : List Shape) (before : List (List ℕ)) (at : ℕ) (fields : List (List ℕ)) (rest more : List ℕ) (next : ℕ) → FitsAll shapes before fields → rest ≡ spell_all shapes fields ++ more → 0 < length more
    → next ≡ at + length (spell_all shapes fields) → IsFault shapes before at rest (fault.Extra next)
extra [] before at [] rest more next fits e some place = (omega (arith, some, ap length e), ap fault.Extra (omega (arith, place)))
extra [] before at (bytes ∷ fields) rest more next fits e some place = absurd fits
extra (s ∷ shapes) before at [] rest more next fits e some place = absurd fits
extra (s ∷ shapes) before at (bytes ∷ fields) rest more next fits e some place =
    inr (
      bytes,
      spell_all shapes fields ++ more,
      fits.0,
      e ∙ append_assoc (spell s bytes) (spell_all shapes fields) more,
      extra shapes (before ++ bytes ∷ []) (at + length (spell s bytes)) fields (spell_all shapes fields ++ more) more next fits.1 refl some (omega (arith, place, length-append (spell s bytes) (spell_all shapes fields))),
    )

-- ---- parts are their fields

abbrev Read : Type 0
Read = Result (List (List ℕ) × ℕ) RecordFault

abbrev behind_fields : List (List ℕ) → Read → Read
behind_fields before r = r >>= λ x. Ok (before ++ x.0, x.1)

behind_nothing : (r : Read) → behind_fields [] r ≡ r
behind_nothing (Ok x) = refl
behind_nothing (Err f) = refl

behind_both : (before more : List (List ℕ)) (r : Read) → behind_fields before (behind_fields more r) ≡ behind_fields (before ++ more) r
behind_both before more (Ok x) = ap (λ fields. Ok (fields, x.1)) (sym (append_assoc before more x.0))
behind_both before more (Err f) = refl

-- two lists of fields, one behind the other
abbrev both_read : List Shape → List Shape → List (List ℕ) → List ℕ → ℕ → Read
both_read xs ys before payload at = fields_at xs before payload at >>= λ x. behind_fields x.0 (fields_at ys (before ++ x.0) payload x.1)

abbrev one_more : List ℕ → Read → Read
one_more bytes r = r >>= λ others. Ok (bytes ∷ others.0, others.1)

regroup : (ys : List Shape) (before : List (List ℕ)) (payload bytes : List ℕ) (r : Read)
    → one_more bytes (r >>= λ x. behind_fields x.0 (fields_at ys ((before ++ bytes ∷ []) ++ x.0) payload x.1))
    ≡ (one_more bytes r >>= λ x. behind_fields x.0 (fields_at ys (before ++ x.0) payload x.1))
regroup ys before payload bytes (Ok x) =
    behind_both (bytes ∷ []) x.0 (fields_at ys ((before ++ bytes ∷ []) ++ x.0) payload x.1)
    ∙ ap (λ b. behind_fields (bytes ∷ x.0) (fields_at ys b payload x.1)) (append_assoc before (bytes ∷ []) x.0)
regroup ys before payload bytes (Err f) = refl

from_field : (xs ys : List Shape) (before : List (List ℕ)) (payload : List ℕ) (r : Result (List ℕ × ℕ) RecordFault)
    → ((x : List ℕ × ℕ) → fields_at (xs ++ ys) (before ++ x.0 ∷ []) payload x.1 ≡ both_read xs ys (before ++ x.0 ∷ []) payload x.1)
    → (r >>= λ x. one_more x.0 (fields_at (xs ++ ys) (before ++ x.0 ∷ []) payload x.1))
    ≡ ((r >>= λ x. one_more x.0 (fields_at xs (before ++ x.0 ∷ []) payload x.1)) >>= λ x. behind_fields x.0 (fields_at ys (before ++ x.0) payload x.1))
from_field xs ys before payload (Ok x) later = ap (one_more x.0) (later x) ∙ regroup ys before payload x.0 (fields_at xs (before ++ x.0 ∷ []) payload x.1)
from_field xs ys before payload (Err f) later = refl

fields_at-append : (xs ys : List Shape) (before : List (List ℕ)) (payload : List ℕ) (at : ℕ) → fields_at (xs ++ ys) before payload at ≡ both_read xs ys before payload at
fields_at-append [] ys before payload at = ap (λ b. fields_at ys b payload at) (sym (append-nil before)) ∙ sym (behind_nothing (fields_at ys (before ++ []) payload at))
fields_at-append (s ∷ xs) ys before payload at = from_field xs ys before payload (field_at s before payload at) (λ x. fields_at-append xs ys (before ++ x.0 ∷ []) payload x.1)

from_part : (format : Format) (before : List (List ℕ)) (payload : List ℕ) (r : Read)
    → ((x : List (List ℕ) × ℕ) → parts_at format (before ++ x.0) payload x.1 ≡ behind_fields (before ++ x.0) (fields_at (joined format) (before ++ x.0) payload x.1))
    → (r >>= λ x. parts_at format (before ++ x.0) payload x.1) ≡ behind_fields before (r >>= λ x. behind_fields x.0 (fields_at (joined format) (before ++ x.0) payload x.1))
from_part format before payload (Ok x) later = later x ∙ sym (behind_both before x.0 (fields_at (joined format) (before ++ x.0) payload x.1))
from_part format before payload (Err f) later = refl

pub parts_at-fields : (format : Format) (before : List (List ℕ)) (payload : List ℕ) (at : ℕ) → parts_at format before payload at ≡ behind_fields before (fields_at (joined format) before payload at)
parts_at-fields [] before payload at = ap (λ b. Ok (b, at)) (sym (append-nil before))
parts_at-fields (part ∷ format) before payload at =
    from_part format before payload (fields_at part before payload at) (λ x. parts_at-fields format (before ++ x.0) payload x.1)
    ∙ ap (behind_fields before) (sym (fields_at-append part (joined format) before payload at))

-- ---- a whole payload

-- the payload has a format's first byte, and the fields behind it
pub record IsPayload (t : ℕ × List (List ℕ)) (payload : List ℕ) : Type 0 where
  pub known : is_some (format_of t.0) ≡ true
  pub fits : FitsAll (shapes_of (format_of t.0)) [] t.1
  pub is : payload ≡ t.0 ∷ spell_all (shapes_of (format_of t.0)) t.1

pub record Whole (payload : List ℕ) (t : ℕ × List (List ℕ)) : Type 0 where
  pub is : whole payload ≡ Ok t
  pub payload_is : IsPayload t payload

pub record Refused (payload : List ℕ) (f : RecordFault) : Type 0 where
  pub is : whole payload ≡ Err f
  pub refused : IsRefused payload f

abbrev pub WholeOutcome : List ℕ → Type 0
WholeOutcome payload = ((t : ℕ × List (List ℕ)) × Whole payload t) ⊎ ((f : RecordFault) × Refused payload f)

-- what is made of the format of the first byte
abbrev all_of : List ℕ → (ℕ × List (List ℕ)) × ℕ → Result (ℕ × List (List ℕ)) RecordFault
all_of payload read = cond (nat_lt read.1 (length payload)) (Err (fault.Extra read.1)) (Ok read.0)

abbrev with_byte : ℕ → List (List ℕ) × ℕ → Result ((ℕ × List (List ℕ)) × ℕ) RecordFault
with_byte byte fields = Ok ((byte, fields.0), fields.1)

abbrev made_of : ℕ → List ℕ → Option Format → Result (ℕ × List (List ℕ)) RecordFault
made_of byte payload o = (behind o byte payload >>= with_byte byte) >>= all_of payload

record MadeOf (byte : ℕ) (rest : List ℕ) (o : Option Format) (fields : List (List ℕ)) : Type 0 where
  is : made_of byte (byte ∷ rest) o ≡ Ok (byte, fields)
  known : is_some o ≡ true
  fits : FitsAll (shapes_of o) [] fields
  spelled : rest ≡ spell_all (shapes_of o) fields

record FailedOf (byte : ℕ) (rest : List ℕ) (o : Option Format) (f : RecordFault) : Type 0 where
  is : made_of byte (byte ∷ rest) o ≡ Err f
  refused : IsFaultBehind o byte rest f

abbrev OutcomeOf : ℕ → List ℕ → Option Format → Type 0
OutcomeOf byte rest o = ((fields : List (List ℕ)) × MadeOf byte rest o fields) ⊎ ((f : RecordFault) × FailedOf byte rest o f)

at_end : (byte : ℕ) (rest : List ℕ) (format : Format) (fields : List (List ℕ)) (next : ℕ) → TookAll (joined format) [] (byte ∷ rest) 1 fields next
    → parts_at format [] (byte ∷ rest) 1 ≡ Ok (fields, next) → (b : Bool) → nat_lt next (length (byte ∷ rest)) ≡ b → OutcomeOf byte rest (Some format)
at_end byte rest format fields next t e true p =
    let more : 0 < length (drop next (byte ∷ rest)) = omega (arith, length-drop next (byte ∷ rest), ltb-true next (length (byte ∷ rest)) p) in
    inr (fault.Extra next, record { is = rw (e, p) refl; refused = extra (joined format) [] 1 fields rest (drop next (byte ∷ rest)) next t.fits t.parts more t.place })
at_end byte rest format fields next t e false p =
    let none : drop next (byte ∷ rest) ≡ [] = nil_from_length (drop next (byte ∷ rest)) (omega (arith, length-drop next (byte ∷ rest), ltb-false next (length (byte ∷ rest)) p)) in
    inl (fields, record { is = rw (e, p) refl; known = refl; fits = t.fits; spelled = t.parts ∙ ap (λ xs. spell_all (joined format) fields ++ xs) none ∙ append-nil (spell_all (joined format) fields) })

outcome_of : (byte : ℕ) (rest : List ℕ) → IsBytes (byte ∷ rest) → (o : Option Format) → OutcomeOf byte rest o
outcome_of byte rest fits None = inr (fault.Kind byte, record { is = refl; refused = refl })
outcome_of byte rest fits (Some format) = from_fields (outcome_all (joined format) [] (byte ∷ rest) 1 fits (omega arith))
  where
    from_fields : OutcomeAll (joined format) [] (byte ∷ rest) 1 → OutcomeOf byte rest (Some format)
    from_fields (inl (fields, next, t)) =
        at_end byte rest format fields next t (parts_at-fields format [] (byte ∷ rest) 1 ∙ ap (behind_fields []) t.is) (nat_lt next (length (byte ∷ rest))) refl
    from_fields (inr (f, t)) =
        let e : parts_at format [] (byte ∷ rest) 1 ≡ Err f = parts_at-fields format [] (byte ∷ rest) 1 ∙ ap (behind_fields []) t.is in
        inr (f, record { is = rw e refl; refused = t.fault })

pub whole_outcome : (payload : List ℕ) → IsBytes payload → WholeOutcome payload
whole_outcome [] fits = inr (fault.Short 0, record { is = refl; refused = refl })
whole_outcome (byte ∷ rest) fits = told (outcome_of byte rest fits (format_of byte))
  where
    told : OutcomeOf byte rest (format_of byte) → WholeOutcome (byte ∷ rest)
    told (inl (fields, m)) = inl ((byte, fields), record { is = m.is; payload_is = record { known = m.known; fits = m.fits; is = ap (λ xs. byte ∷ xs) m.spelled } })
    told (inr (f, m)) = inr (f, record { is = m.is; refused = m.refused })

-- ---- the table is sound: no field is longer than its bytes of length can say

all_sound : (shapes : List Shape) → list_all is_sound shapes ≡ true → AllSound shapes
all_sound [] e = tt
all_sound (s ∷ shapes) e = let p = and_parts (is_sound s) (list_all is_sound shapes) e in (p.0, all_sound shapes p.1)

abbrev sound_row : ℕ × Format → Bool
sound_row row = list_all is_sound (joined row.1)

abbrev row_for : List (ℕ × Format) → ℕ → Option Format
row_for rows byte = option_map (λ (row : ℕ × Format). row.1) (find (λ row. row.0 == byte) rows)

sound_rows : (rows : List (ℕ × Format)) → list_all sound_row rows ≡ true → (byte : ℕ) → AllSound (shapes_of (row_for rows byte))
sound_rows [] h byte = tt
sound_rows (row ∷ rows) h byte =
    let p = and_parts (sound_row row) (list_all sound_row rows) h in
    at_row (row.0 == byte) (all_sound (joined row.1) p.0) (sound_rows rows p.1 byte)
  where
    at_row : (b : Bool) → AllSound (joined row.1) → AllSound (shapes_of (row_for rows byte))
        → AllSound (shapes_of (option_map (λ (row : ℕ × Format). row.1) (cond b (Some row) (find (λ row. row.0 == byte) rows))))
    at_row true this later = this
    at_row false this later = later

pub sound : (byte : ℕ) → AllSound (shapes_of (format_of byte))
sound = sound_rows formats refl

-- ---- both ways

abbrev pub done : ℕ × List (List ℕ) → Result (ℕ × List (List ℕ)) RecordFault
done t = Ok t

abbrev pub failed : RecordFault → Result (ℕ × List (List ℕ)) RecordFault
failed f = Err f

pub ok_is : (t u : ℕ × List (List ℕ)) → done t ≡ done u → t ≡ u
ok_is t u e = cc

pub err_is : (f g : RecordFault) → failed f ≡ failed g → f ≡ g
err_is f g e = cc

heads : (a b : ℕ) (xs ys : List ℕ) → a ∷ xs ≡ b ∷ ys → (a ≡ b) × (xs ≡ ys)
heads a b xs ys e = (cc, cc)

-- two payloads of one text hold the same fields
pub one_payload : (t u : ℕ × List (List ℕ)) (payload : List ℕ) → IsPayload t payload → IsPayload u payload → t ≡ u
one_payload t u payload p q =
    let e = heads t.0 u.0 (spell_all (shapes_of (format_of t.0)) t.1) (spell_all (shapes_of (format_of u.0)) u.1) (sym p.is ∙ q.is) in
    let fits : FitsAll (shapes_of (format_of t.0)) [] u.1 = subst (λ b. FitsAll (shapes_of (format_of b)) [] u.1) (sym e.0) q.fits in
    let rest : spell_all (shapes_of (format_of t.0)) t.1 ≡ spell_all (shapes_of (format_of t.0)) u.1 = e.1 ∙ ap (λ b. spell_all (shapes_of (format_of b)) u.1) (sym e.0) in
    let fields = one_fields (shapes_of (format_of t.0)) [] t.1 u.1 (sound t.0) p.fits fits rest in
    λ i. (e.0 i, fields i)

-- a payload has no fault
pub no_refusal : (t : ℕ × List (List ℕ)) (payload : List ℕ) (f : RecordFault) → IsPayload t payload → IsRefused payload f → ⊥
no_refusal t [] f p r = absurd (let e = p.is in cc)
no_refusal t (byte ∷ rest) f p r =
    let e = heads byte t.0 rest (spell_all (shapes_of (format_of t.0)) t.1) p.is in
    at_format (format_of t.0) p.known (sound t.0) p.fits e.1 (subst (λ b. IsFaultBehind (format_of b) b rest f) e.0 r)
  where
    at_format : (o : Option Format) → is_some o ≡ true → AllSound (shapes_of o) → FitsAll (shapes_of o) [] t.1 → rest ≡ spell_all (shapes_of o) t.1 → IsFaultBehind o t.0 rest f → ⊥
    at_format None known s h is refused = absurd cc
    at_format (Some format) known s h is refused = no_fault_all (joined format) [] 1 t.1 rest f s h is refused

-- a payload has one first fault
pub one_refusal : (payload : List ℕ) (f g : RecordFault) → IsRefused payload f → IsRefused payload g → f ≡ g
one_refusal [] f g p q = p ∙ sym q
one_refusal (byte ∷ rest) f g p q = at_format (format_of byte) (sound byte) p q
  where
    at_format : (o : Option Format) → AllSound (shapes_of o) → IsFaultBehind o byte rest f → IsFaultBehind o byte rest g → f ≡ g
    at_format None s p q = p ∙ sym q
    at_format (Some format) s p q = one_fault_all (joined format) [] 1 rest f g s p q

-- a payload of these fields is read as these fields
pub read_again : (t : ℕ × List (List ℕ)) (payload : List ℕ) → IsBytes payload → IsPayload t payload → whole payload ≡ Ok t
read_again t payload fits p = told (whole_outcome payload fits)
  where
    told : WholeOutcome payload → whole payload ≡ Ok t
    told (inl (u, w)) = w.is ∙ ap Ok (one_payload u t payload w.payload_is p)
    told (inr (f, w)) = absurd (no_refusal t payload f p w.refused)

-- the first fault is what is answered
pub fault_again : (payload : List ℕ) (f : RecordFault) → IsBytes payload → IsRefused payload f → whole payload ≡ Err f
fault_again payload f fits r = told (whole_outcome payload fits)
  where
    told : WholeOutcome payload → whole payload ≡ Err f
    told (inl (u, w)) = absurd (no_refusal u payload f w.payload_is r)
    told (inr (g, w)) = w.is ∙ ap Err (one_refusal payload g f w.refused r)

-- what is read is a payload
pub read_payload : (t : ℕ × List (List ℕ)) (payload : List ℕ) → IsBytes payload → whole payload ≡ Ok t → IsPayload t payload
read_payload t payload fits e = told (whole_outcome payload fits)
  where
    told : WholeOutcome payload → IsPayload t payload
    told (inl (u, w)) = subst (λ x. IsPayload x payload) (ok_is u t (sym w.is ∙ e)) w.payload_is
    told (inr (f, w)) = absurd (let bad = sym w.is ∙ e in cc)

-- what is answered is the first fault
pub read_fault : (payload : List ℕ) (f : RecordFault) → IsBytes payload → whole payload ≡ Err f → IsRefused payload f
read_fault payload f fits e = told (whole_outcome payload fits)
  where
    told : WholeOutcome payload → IsRefused payload f
    told (inl (u, w)) = absurd (let bad = sym w.is ∙ e in cc)
    told (inr (g, w)) = subst (IsRefused payload) (err_is g f (sym w.is ∙ e)) w.refused
