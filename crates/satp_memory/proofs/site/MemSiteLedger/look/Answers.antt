use Rattle.std.proofs.Common.{◌∙◌, [], inl, refl, sym}
use Rattle.std.proofs.lemmas.List.{append-nil}
use Rattle.satp_base.specs.declared.ledger.LedgerCall.TheVariants.{Look}
use Rattle.satp_memory.proofs.Keeping.{follows_then}
use Rattle.satp_memory.proofs.Following.{ask_then, no_ledger, site_done, site_failed, was_there}
use Rattle.satp_memory.proofs.Siting.{asked-failing, asked-none}
use Rattle.satp_memory.proofs.site.MemSiteLedger.look.Goals as goal

pub returns-in-Some-clause-told : goal.returns-in-Some-clause-told
returns-in-Some-clause-told g c = asked-none (Look c.args.session) _ _ _ c.in-Ok.ask c.in-Ok.ensures.ok.0 c.in-Ok.ensures.ok.1 c.done.ensures.told

pub returns-in-Some-clause-beside : goal.returns-in-Some-clause-beside
returns-in-Some-clause-beside g c =
    site_done _ (Look c.args.session) _ _ _ _ (follows_then _ _ _ c.ask.ensures.beside c.done.ensures.beside) [] (c.done.ensures.events ∙ c.ask.ensures.events ∙ sym (append-nil _)) c.in-Ok.ensures.ended.0 (c.done.ensures.calls ∙ c.in-Ok.ensures.ended.2) refl
    (ask_then _ _ _ _ _ c.done.ensures.asks c.in-Ok.ensures.asks c.in-Ok.ensures.ok.0) refl

pub returns-in-None-clause-told : goal.returns-in-None-clause-told
returns-in-None-clause-told g c = inl (asked-failing (Look c.args.session) _ _ _ c.in-Ok.ask c.in-Ok.ensures.ok.0 c.in-Ok.ensures.ok.1 c.halt.ensures.told)

pub returns-in-None-clause-ended : goal.returns-in-None-clause-ended
returns-in-None-clause-ended g c = was_there c.args.self.now.core c.is_some.result c.is_some.ensures c.in-Ok.ensures.ended.1 c.in-None.is

pub returns-in-None-clause-beside : goal.returns-in-None-clause-beside
returns-in-None-clause-beside g c = was_there c.args.self.now.core c.is_some.result c.is_some.ensures c.in-Ok.ensures.ended.1 c.in-None.is

pub returns-in-Err-clause-beside : goal.returns-in-Err-clause-beside
returns-in-Err-clause-beside g c =
    site_failed _ (Look c.args.session) _ _ _ _ c.ask.ensures.beside c.ask.ensures.events refl c.is_some.result (no_ledger g.C.LedgerCore.book c.args.self.now.core c.is_some.result c.is_some.ensures) c.in-Err.ensures.failed
