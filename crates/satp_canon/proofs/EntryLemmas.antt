-- Entries as data and as texts.
use Rattle.std.proofs.Common.{◌≡◌, ℕ, Bool, true, false, suc, List, [], ◌∷◌, length, map, Option, Some, refl, ap, ap₂, sym, ◌∙◌}
use Rattle.std.specs.List.{list_all}
use Rattle.std.specs.Option.{option_map_or}
use Rattle.std.specs.Prelude.{nat_le}
use Rattle.std.proofs.lemmas.Bool.{and_from, and_parts}
use Rattle.serde_json.specs.Data.{Data, null, boolean, number, string, array, object, Items, item}
use Rattle.serde_json.specs.View.{items_of}
use Rattle.satp_base.specs.Forms.{is_entry}
use Rattle.satp_base.specs.Forms as forms
use Rattle.satp_base.specs.declared.member.MemberName.TheVariants.{Entries}
use Rattle.satp_canon.specs.FirstFault.{are_entries, fault_unless, holds_text, item_list}
use Rattle.satp_canon.specs.Reads.{entry_of, word_items}

list_of : (ds : List Data) → item_list (items_of ds) ≡ ds
list_of [] = refl
list_of (d ∷ ds) = ap (λ (xs : List Data). d ∷ xs) (list_of ds)

pub entries_told : (o : Option Items) (ds : List Data) (b : Bool) → Some (items_of ds) ≡ o → b ≡ are_entries ds → fault_unless b Entries ≡ fault_unless (option_map_or (λ x. are_entries (item_list x)) o false) Entries
entries_told o ds b e f =
    ap (λ (c : Bool). fault_unless c Entries) (f ∙ sym (ap are_entries (list_of ds)) ∙ ap (λ (x : Option Items). option_map_or (λ y. are_entries (item_list y)) x false) e)

word : (d : Data) → holds_text is_entry (Some d) ≡ true → (string (entry_of d) ≡ d) × (is_entry (entry_of d) ≡ true)
word null e = absurd cc
word (boolean b) e = absurd cc
word (number n) e = absurd cc
word (string s) e = (refl, e)
word (array ds) e = absurd cc
word (object ms) e = absurd cc

words_same : (ds : List Data) → list_all (λ d. holds_text is_entry (Some d)) ds ≡ true → word_items (map entry_of ds) ≡ items_of ds
words_same [] e = refl
words_same (d ∷ ds) e = let p = and_parts _ _ e in ap₂ item (word d p.0).0 (words_same ds p.1)

words_good : (ds : List Data) → list_all (λ d. holds_text is_entry (Some d)) ds ≡ true → list_all is_entry (map entry_of ds) ≡ true
words_good [] e = refl
words_good (d ∷ ds) e = let p = and_parts _ _ e in and_from _ _ (word d p.0).1 (words_good ds p.1)

long : (ds : List Data) → length (map entry_of ds) ≡ length ds
long [] = refl
long (d ∷ ds) = ap suc (long ds)

pub entries_good : (ds : List Data) → are_entries ds ≡ true → forms.are_entries (map entry_of ds) ≡ true
entries_good ds e = let p = and_parts _ _ e in and_from _ _ (ap (λ (n : ℕ). nat_le n 2) (long ds) ∙ p.0) (words_good ds p.1)

pub words_of : (ds : List Data) → are_entries ds ≡ true → word_items (map entry_of ds) ≡ items_of ds
words_of ds e = words_same ds (and_parts _ _ e).1
