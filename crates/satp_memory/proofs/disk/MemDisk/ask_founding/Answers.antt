use Rattle.std.proofs.Common.{◌≡◌, ◌∙◌, [], IfOk, true, false, ap, refl, subst, sym, inr}
use Rattle.std.proofs.lemmas.List.{append-nil}
use Rattle.satp_base.specs.Calls.{Ask}
use Rattle.satp_base.specs.Founding.{Founding}
use Rattle.satp_base.specs.declared.ledger.LedgerCall.TheVariants.{Found}
use Rattle.satp_memory.specs.Calling.{wanting}
use Rattle.satp_memory.specs.Steps.{asking, counted, is_stopped, told_of}
use Rattle.satp_memory.proofs.Following.{counted_counts, follows_still, is_wanting}
use Rattle.satp_memory.proofs.disk.MemDisk.ask_founding.Goals as goal

pub returns-in-Ok-clause-ok : goal.returns-in-Ok-clause-ok
returns-in-Ok-clause-ok c =
    subst (λ (g : Founding). IfOk c.ask.result (λ (ask : Ask). (ask ≡ asking (Found c.args.kind g) c.args.self.now true) × (told_of c.ask.new.self ≡ counted (told_of c.args.self.now)) × (is_stopped c.ask.new.self ≡ false))) c.in-Ok.ensures c.ask.ensures.ok

pub returns-in-Err-clause-err : goal.returns-in-Err-clause-err
returns-in-Err-clause-err c =
    inr (rw (c.want.ensures.counted, c.begin.ensures.told, append-nil c.args.self.now.events.items) refl)

pub returns-in-Err-clause-beside : goal.returns-in-Err-clause-beside
returns-in-Err-clause-beside c =
    follows_still _ _ [] refl refl refl (sym (append-nil _)) refl (counted_counts c.is_barred-barred.result _ _ (inr (c.want.ensures.counted ∙ ap wanting c.begin.ensures.counted))) refl

pub returns-in-Err-clause-failed : goal.returns-in-Err-clause-failed
returns-in-Err-clause-failed c = inr (is_wanting c.is_barred-barred.result _ _ (c.want.ensures.counted ∙ ap wanting c.begin.ensures.counted), refl)
