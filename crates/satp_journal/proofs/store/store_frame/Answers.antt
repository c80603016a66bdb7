use Rattle.std.proofs.Common.{◌+◌, refl, ◌∙◌, ap, [], ◌∷◌, Some, option_map}
use Rattle.satp_base.specs.Calls.{calls_of, made}
use Rattle.satp_base.specs.Segments.{frame_events}
use Rattle.satp_base.specs.declared.area.Event.TheVariants.{Wrote, Synced}
use Rattle.satp_base.proofs.Made.{made-made}
use Rattle.satp_journal.proofs.Failing.{fails_first, fails_at}
use Rattle.satp_journal.proofs.store.store_frame.Goals as goal

pub returns-in_err-write-clause-err : goal.returns-in_err-write-clause-err
returns-in_err-write-clause-err g c =
    fails_first c.from_residual.result (calls_of (frame_events c.args.area c.args.gate c.args.frame.now)) (Some (Wrote c.args.area (c.args.gate + 1) c.args.frame.now)) (g.D.Device.told c.args.disk.now) (g.D.Device.told c.write.new.self) refl c.in_err-write.ensures.err

pub returns-in_err-write-2-clause-err : goal.returns-in_err-write-2-clause-err
returns-in_err-write-2-clause-err g c =
    fails_at c.from_residual-in_err-write-2.result (calls_of (frame_events c.args.area c.args.gate c.args.frame.now)) 2 (Some (Wrote c.args.area c.args.gate (1 ∷ []))) (g.D.Device.told c.args.disk.now) (g.D.Device.told c.sync.new.self) (g.D.Device.told c.write-2.new.self) refl
    (c.in_ok-sync.ensures.ok ∙ ap (option_map (made 1 (Synced c.args.area ∷ []))) c.in_ok-write.ensures.ok ∙ made-made 1 1 _ _ _) c.in_err-write-2.ensures.err

pub returns-in_err-sync-2-clause-err : goal.returns-in_err-sync-2-clause-err
returns-in_err-sync-2-clause-err g c =
    fails_at c.from_residual-in_err-sync-2.result (calls_of (frame_events c.args.area c.args.gate c.args.frame.now)) 3 (Some (Synced c.args.area)) (g.D.Device.told c.args.disk.now) (g.D.Device.told c.write-2.new.self) (g.D.Device.told c.sync-2.new.self) refl
    (c.in_ok-write-2.ensures.ok ∙ ap (option_map (made 1 (Wrote c.args.area c.args.gate (1 ∷ []) ∷ []))) (c.in_ok-sync.ensures.ok ∙ ap (option_map (made 1 (Synced c.args.area ∷ []))) c.in_ok-write.ensures.ok ∙ made-made 1 1 _ _ _) ∙ made-made 2 1 _ _ _) c.in_err-sync-2.ensures.err

pub returns-in_err-sync-clause-err : goal.returns-in_err-sync-clause-err
returns-in_err-sync-clause-err g c =
    fails_at c.from_residual-in_err-sync.result (calls_of (frame_events c.args.area c.args.gate c.args.frame.now)) 1 (Some (Synced c.args.area)) (g.D.Device.told c.args.disk.now) (g.D.Device.told c.write.new.self) (g.D.Device.told c.sync.new.self) refl c.in_ok-write.ensures.ok c.in_err-sync.ensures.err
