use Rattle.std.proofs.Common.{◌∙◌, [], ap, refl, sym}
use Rattle.std.proofs.lemmas.List.{append-nil}
use Rattle.satp_base.specs.declared.ledger.LedgerCall.TheVariants.{Raise}
use Rattle.satp_memory.proofs.Keeping.{follows_then}
use Rattle.satp_memory.proofs.Following.{ask_then, no_ledger, site_done, site_failed}
use Rattle.satp_memory.proofs.Siting.{asked-none}
use Rattle.satp_memory.proofs.site.MemSiteSite.raise.Goals as goal

pub returns-in-Ok-clause-told : goal.returns-in-Ok-clause-told
returns-in-Ok-clause-told g c = asked-none Raise _ _ _ c.in-Ok.ask c.in-Ok.ensures.ok.0 c.in-Ok.ensures.ok.1 c.done.ensures.told

pub returns-in-Ok-clause-beside : goal.returns-in-Ok-clause-beside
returns-in-Ok-clause-beside g c =
    site_done _ Raise _ _ _ _ (follows_then _ _ _ c.ask.ensures.beside c.done.ensures.beside) [] (c.done.ensures.events ∙ c.ask.ensures.events ∙ sym (append-nil _)) c.in-Ok.ensures.ended.0 (c.done.ensures.calls ∙ c.in-Ok.ensures.ended.2) refl
    (ask_then _ _ _ _ _ c.done.ensures.asks c.in-Ok.ensures.asks c.in-Ok.ensures.ok.0) refl

pub returns-in-Err-clause-beside : goal.returns-in-Err-clause-beside
returns-in-Err-clause-beside g c =
    site_failed _ Raise _ _ _ _ c.ask.ensures.beside c.ask.ensures.events refl c.is_some.result (no_ledger g.C.LedgerCore.book c.args.self.now.core c.is_some.result c.is_some.ensures) c.in-Err.ensures.failed
