-- What is made of a part, and of a record without a message.
use Rattle.std.proofs.Common.{◌≡◌, ◌<◌, ◌+◌, ℕ, suc, true, take, drop, ap₂, List, [], ◌∷◌, ◌++◌, map, length, get_or, Some, refl, sym, ap, subst, ◌∙◌, arith}
use Rattle.std.specs.List.{All}
use Rattle.std.specs.Prelude.{slice_get}
use Rattle.std.proofs.lemmas.List.{length-map, length_push, map-append}
use Rattle.std.proofs.lemmas.List.Elements.{All-push}
use Rattle.satp_base.specs.Canonical.{kind_of, part_kind}
use Rattle.satp_base.specs.Chains.{last_link, message_at}
use Rattle.satp_base.specs.Forms.{IsPart, is_entry, is_entry_byte}
use Rattle.satp_base.specs.declared.message.Part.{Part}
use Rattle.satp_base.specs.declared.record.Rec.{Rec}
use Rattle.satp_base.specs.declared.record.Rec.TheVariants.{Began, Took, Made, Did, Chose, Rescue}
use Rattle.satp_base.specs.declared.session.SessionId.{SessionId}
use Rattle.satp_base.proofs.ChainLemmas.{link_at_formed}
use Rattle.satp_base.proofs.Forms.{form_parts}
use Rattle.satp_base.proofs.TaleTable.{tale-short}
use Rattle.satp_base.proofs.TextSizes.{chain-entry}
use Rattle.satp_chain.specs.Chained.{Chained, next_signed, tale_of, texts_in}
use Rattle.satp_chain.specs.Verdicts.{Follows}
use Rattle.satp_chain.specs.declared.signed.Signed.{Signed}
use Rattle.satp_log.specs.Journals.{payload_in}
use Rattle.satp_records.specs.Formats.{IsFormedRec, IsMessageText}
use Rattle.satp_sides.specs.Logs.{IsNote}
use Rattle.satp_sides.specs.Points.{stored}
use Rattle.satp_plan.specs.Outlines.{FitsTale}
use Rattle.satp_plan.specs.Plans.{IsMakingOf, IsNoteOf, IsPlanOf, PlanState, TakesOut}
use Rattle.satp_plan.specs.declared.planning.Making.{Making}
use Rattle.satp_plan.specs.declared.planning.Note.{Note}
use Rattle.satp_plan.proofs.Indexes.{cut-at, get-within, same-element, take-next}

-- ---- records can be stored

pub formed-note : (r : Rec) → IsNote r → IsFormedRec r []
formed-note (Began role terms) n = absurd n
formed-note (Took kind) n = absurd n
formed-note (Made kind) n = absurd n
formed-note (Did op) n = refl
formed-note (Chose way) n = refl
formed-note Rescue n = refl

as-long : (kept : List Signed) → length (map (λ (x : Signed). x.text) kept) ≡ length (map (λ (x : Signed). kind_of x.message.body) kept)
as-long kept = length-map kept (λ (x : Signed). x.text) ∙ sym (length-map kept (λ (x : Signed). kind_of x.message.body))

message-text : (t : List ℕ) → is_entry t ≡ true → IsMessageText t
message-text t h = let parts = form_parts 2048 is_entry_byte t h in (parts.some, parts.short)

-- the next message of a chain has a text that can be stored
text-fits : (chain : Chained) (key : List ℕ) (part : Part) → FitsTale (tale_of chain) part → IsMessageText (next_signed chain key part).text
text-fits chain key part f =
    let long = as-long chain.kept in
    let short = tale-short (tale_of chain ++ part_kind part ∷ []) f.1 in
    let push = length_push (tale_of chain) (part_kind part) in
    message-text (next_signed chain key part).text
    (chain-entry key (message_at chain.session chain.recipient (length (texts_in chain) + 1) (last_link (texts_in chain)) part)
    ((record { low = omega arith; high = omega (arith, long, short, push) }, f.0), link_at_formed (texts_in chain) (length (texts_in chain))) tt)

pub formed-making : (chain : Chained) (key : List ℕ) (part : Part) (signed : Signed) → FitsTale (tale_of chain) part → signed ≡ next_signed chain key part → IsFormedRec (Made (part_kind part)) signed.text
formed-making chain key part signed f e = (f.2, subst IsMessageText (ap (λ (x : Signed). x.text) (sym e)) (text-fits chain key part f))

-- ---- parts of a plan

pub making-of : (s : SessionId) (chain : Chained) (key : List ℕ) (part : Part) (signed : Signed) (making : Making) → IsPart part → signed ≡ next_signed chain key part → Follows chain signed
    → making.part ≡ part → making.signed ≡ signed → making.payload ≡ payload_in (stored s (Made (part_kind part)) signed.text) → making.reply ≡ signed.text → IsMakingOf s chain key making
making-of s chain key part signed making f next follows is same pays reply = record {
  formed = subst IsPart (sym is) f;
  next = same ∙ next ∙ ap (next_signed chain key) (sym is);
  follows = subst (Follows chain) (sym same) follows;
  payload = pays ∙ ap (λ (x : Part). payload_in (stored s (Made (part_kind x)) signed.text)) (sym is) ∙ ap (λ (x : Signed). payload_in (stored s (Made (part_kind making.part)) x.text)) (sym same);
  reply = reply ∙ ap (λ (x : Signed). x.text) (sym same);
}

pub note-payload : (s : SessionId) (notes : List Note) (i : ℕ) (note found : Note) (r : Rec) → All (IsNoteOf s) notes → slice_get notes i ≡ Some note → note.rec ≡ r → found ≡ get_or notes i found
    → found.payload ≡ payload_in (stored s r [])
note-payload s notes i note found r all e is at =
    let same : found ≡ note = same-element notes i note found e at in
    subst (IsNoteOf s) (sym at) (all i found (get-within notes i note e)) ∙ ap (λ (x : Rec). payload_in (stored s x [])) (ap (λ (n : Note). n.rec) same ∙ is)

pub making-there : (s : SessionId) (chain : Chained) (key : List ℕ) (makings : List Making) (i : ℕ) (making found : Making) → All (IsMakingOf s chain key) makings → slice_get makings i ≡ Some making → found ≡ get_or makings i found → IsMakingOf s chain key found
making-there s chain key makings i making found all e at = subst (IsMakingOf s chain key) (sym at) (all i found (get-within makings i making e))

-- ---- the plan's calls

pub note-of : (s : SessionId) (chain : Chained) (key : List ℕ) (plan : PlanState) (slice items : List Note) (i : ℕ) (found : Note) (r : Rec) → IsPlanOf s chain key plan → slice ≡ items → items ≡ plan.notes
    → (note : Note) × (slice_get slice i ≡ Some note) × (note.rec ≡ r) → found ≡ get_or items i found → found.payload ≡ payload_in (stored s r [])
note-of s chain key plan slice items i found r is value view (note, e, q) at =
    note-payload s plan.notes i note found r is.notes (ap (λ (xs : List Note). slice_get xs i) (sym (value ∙ view)) ∙ e) q (at ∙ ap (λ (xs : List Note). get_or xs i found) view)

module _ (plan : PlanState) (notes : List Note) (slice items : List Making) (i : ℕ) (found : Making) (part : Part) (view : record { notes = notes; makings = items } ≡ plan) (value : slice ≡ items)
    (there : (making : Making) × (slice_get slice i ≡ Some making) × (making.part ≡ part)) (at : found ≡ get_or items i found) where
  in-items : slice_get items i ≡ Some there.0
  in-items = ap (λ (xs : List Making). slice_get xs i) (sym value) ∙ there.1

  pub taken-out : (after : List Making) → after ≡ take i items ++ drop (suc i) items → TakesOut plan (record { notes = notes; makings = after }) part (Some found)
  taken-out after e = (
    take i items,
    drop (suc i) items,
    ap (λ (p : PlanState). p.makings) (sym view) ∙ cut-at items i found (get-within items i there.0 in-items) at,
    ap₂ (λ (ns : List Note) (ms : List Making). record { notes = ns; makings = ms }) (ap (λ (p : PlanState). p.notes) view) e,
    ap (λ (m : Making). m.part) (same-element items i there.0 found in-items at) ∙ there.2,
  )

  pub taken-making : (s : SessionId) (chain : Chained) (key : List ℕ) → IsPlanOf s chain key plan → IsMakingOf s chain key found
  taken-making s chain key is =
      let all : All (IsMakingOf s chain key) items = subst (λ (p : PlanState). All (IsMakingOf s chain key) p.makings) (sym view) is.makings in
      making-there s chain key items i there.0 found all in-items at

-- ---- one more

pub note-pushed : (s : SessionId) (recs : List Rec) (n : ℕ) (notes new : List Note) (note : Note) → n < length recs → note.rec ≡ get_or recs n note.rec → map (λ (x : Note). x.rec) notes ≡ take n recs → All (IsNoteOf s) notes
    → new ≡ notes ++ note ∷ [] → IsNoteOf s note → (map (λ (x : Note). x.rec) new ≡ take (n + 1) recs) × All (IsNoteOf s) new
note-pushed s recs n notes new note w at recs-are made e is = (
  ap (map (λ (x : Note). x.rec)) e ∙ map-append (λ (x : Note). x.rec) notes (note ∷ []) ∙ ap (λ (xs : List Rec). xs ++ note.rec ∷ []) recs-are ∙ sym (take-next recs n note.rec w at),
  subst (All (IsNoteOf s)) (sym e) (All-push (IsNoteOf s) notes note made is),
)

pub making-pushed : (s : SessionId) (chain : Chained) (key : List ℕ) (parts : List Part) (n : ℕ) (makings new : List Making) (making : Making) (part : Part) → n < length parts → part ≡ get_or parts n part → making.part ≡ part
    → map (λ (x : Making). x.part) makings ≡ take n parts → All (IsMakingOf s chain key) makings
    → new ≡ makings ++ making ∷ [] → IsMakingOf s chain key making → (map (λ (x : Making). x.part) new ≡ take (n + 1) parts) × All (IsMakingOf s chain key) new
making-pushed s chain key parts n makings new making part w at has parts-are made e is = (
  ap (map (λ (x : Making). x.part)) e ∙ map-append (λ (x : Making). x.part) makings (making ∷ []) ∙ ap₂ (λ (xs : List Part) (x : Part). xs ++ x ∷ []) parts-are has ∙ sym (take-next parts n part w at),
  subst (All (IsMakingOf s chain key)) (sym e) (All-push (IsMakingOf s chain key) makings making made is),
)
