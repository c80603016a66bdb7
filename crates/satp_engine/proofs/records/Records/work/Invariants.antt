use Rattle.std.proofs.Common.{◌≡◌, ◌+◌, ℕ}
use Rattle.satp_points.specs.States.{tells}
use Rattle.satp_engine.specs.Working.{Grows, HasRoom, Stands}
use Rattle.satp_engine.proofs.Looping.{SoFar}
use Rattle.satp_engine.proofs.records.Records.work.Given as goal

abbrev pub invariant-loop-turn : goal.invariant-loop-turn
invariant-loop-turn g l =
    let told = g.S.Device.told in
    let book = g.S.Device.book in
    (left : ℕ) × (left + l._turn ≡ 3) × SoFar left l.session l.initial.self (tells (told l.initial.site) (book l.initial.site)) l.self (tells (told l.site) (book l.site)) l.plan
    × Stands l.self (told l.site) × HasRoom left l.self.journal × Grows l.session l.initial.self l.self
    × (g.S.Device.faults l.site ≡ g.S.Device.faults l.initial.site) × g.S.Device.beside l.initial.site l.site
