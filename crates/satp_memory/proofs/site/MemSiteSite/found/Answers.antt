use Rattle.std.proofs.Common.{◌∙◌, List, [], ◌∷◌, ◌++◌, Some, ap, inl, inr, refl, sym}
use Rattle.satp_base.specs.declared.area.Event.{Event}
use Rattle.satp_base.specs.declared.area.Event.TheVariants.{Founded}
use Rattle.satp_base.specs.declared.ledger.LedgerCall.TheVariants.{Found}
use Rattle.satp_memory.specs.Calling.{wanting}
use Rattle.satp_memory.specs.Sites.{same_kind}
use Rattle.satp_memory.proofs.Keeping.{follows_then}
use Rattle.satp_memory.proofs.Following.{ask_then, halted_noted, site_done, site_failed, site_wants}
use Rattle.satp_memory.proofs.Siting.{asked-adding, asked-failing}
use Rattle.satp_memory.proofs.site.MemSiteSite.found.Goals as goal

pub returns-in-Err-clause-beside : goal.returns-in-Err-clause-beside
returns-in-Err-clause-beside g c =
    site_failed _ (Found c.args.kind c.args.genesis.now) _ _ _ _ c.ask_founding.ensures.beside c.ask_founding.ensures.events refl c.same_kind-fits.result
    (λ misfit. sym (c.same_kind-fits.ensures ∙ ap (same_kind c.args.kind) c.KIND.ensures) ∙ misfit) c.in-Err.ensures.failed

pub returns-in-Ok-begin-clause-told : goal.returns-in-Ok-begin-clause-told
returns-in-Ok-begin-clause-told g c =
    (Founded ∷ [], refl, asked-adding (Found c.args.kind c.args.genesis.now) _ _ _ c.in-Ok.ask c.in-Ok.ensures.ok.0 c.in-Ok.ensures.ok.1 (Founded ∷ []) c.found.ensures.told)

pub returns-in-Ok-begin-clause-beside : goal.returns-in-Ok-begin-clause-beside
returns-in-Ok-begin-clause-beside g c =
    site_done _ (Found c.args.kind c.args.genesis.now) _ _ _ _ (follows_then _ _ _ c.ask_founding.ensures.beside c.found.ensures.beside) (Founded ∷ [])
    (c.found.ensures.founded ∙ ap (λ (es : List Event). es ++ Founded ∷ []) c.ask_founding.ensures.events) c.in-Ok.ensures.ended.0 (c.found.ensures.calls ∙ c.in-Ok.ensures.ended.2) refl
    (ask_then _ _ _ _ _ c.found.ensures.asks c.in-Ok.ensures.asks c.in-Ok.ensures.ok.0) (ap Some c.in-Ok-begin.ensures)

pub returns-in-Err-begin-clause-told : goal.returns-in-Err-begin-clause-told
returns-in-Err-begin-clause-told g c =
    ([], inr refl, inl (asked-failing (Found c.args.kind c.args.genesis.now) _ _ _ c.in-Ok.ask c.in-Ok.ensures.ok.0 c.in-Ok.ensures.ok.1 c.halt.ensures.told))

pub returns-in-Err-begin-clause-beside : goal.returns-in-Err-begin-clause-beside
returns-in-Err-begin-clause-beside g c =
    site_wants _ (Found c.args.kind c.args.genesis.now) _ _ _ _ (follows_then _ _ _ c.ask_founding.ensures.beside c.halt.ensures.beside) (c.halt.ensures.events ∙ c.ask_founding.ensures.events) refl
    (inl (c.halt.ensures.calls ∙ ap wanting c.in-Ok.ensures.ended.2)) (halted_noted _ _ _ _ _ c.halt.ensures.asks c.in-Ok.ensures.asks c.in-Ok.ensures.ok.0)
