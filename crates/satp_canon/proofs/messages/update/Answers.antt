use Rattle.std.proofs.Common.{◌≡◌, ◌∙◌, ℕ, List, Some, ap, subst, sym, map}
use Rattle.std.specs.Prelude.{IsTrue}
use Rattle.std.proofs.lemmas.Simd.{map-map}
use Rattle.serde_json.specs.Data.{array}
use Rattle.serde_json.specs.View.{view}
use Rattle.satp_base.specs.Forms.{are_entries}
use Rattle.satp_canon.specs.Reads.{entry_of, word_items}
use Rattle.satp_canon.proofs.EntryLemmas.{entries_good, words_of}
use Rattle.satp_canon.proofs.messages.update.Goals as goal

pub returns-in-Ok-clause-message : goal.returns-in-Ok-clause-message
returns-in-Ok-clause-message c =
    let u = c.in_ok-update.ensures in
    let items = c.in_ok-update.update.entries.now.items in
    let copied : c.in-Ok.entries ≡ map entry_of (map view items) = c.in-Ok.ensures ∙ sym (map-map entry_of view items) in
    ((u.short, subst (λ (ts : List (List ℕ)). IsTrue (are_entries ts)) (sym copied) (entries_good (map view items) u.formed)), tt)

pub returns-in-Ok-clause-reads : goal.returns-in-Ok-clause-reads
returns-in-Ok-clause-reads c =
    let u = c.in_ok-update.ensures in
    let items = c.in_ok-update.update.entries.now.items in
    let copied : c.in-Ok.entries ≡ map entry_of (map view items) = c.in-Ok.ensures ∙ sym (map-map entry_of view items) in (
      u.entries ∙ ap (λ is. Some (array is)) (sym (ap word_items copied ∙ words_of (map view items) u.formed)),
      (c.requires, (u.length, (u.receiver, (u.sender, (u.session, (u.version, tt)))))),
    )
