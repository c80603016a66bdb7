use Rattle.std.proofs.Common.{◌∙◌, Ok, Result, refl, sym, ap, subst, arith}
use Rattle.satp_base.specs.declared.site.SiteFault.{SiteFault}
use Rattle.satp_points.specs.States.{tells}
use Rattle.satp_plan.specs.Plans.{PlanState}
use Rattle.satp_engine.specs.Turning.{TurnAnswers}
use Rattle.satp_engine.specs.declared.work.Turn.{Turn}
use Rattle.satp_engine.proofs.Looping.{SoFar, broke-now, far-begun, far-ended, fewer, fewer-sum, none-left, planned-now, rested-now, room-after, said-now, stored-now}
use Rattle.satp_engine.proofs.Turns.{grows-none, grows-then}
use Rattle.satp_engine.proofs.records.Records.work.Goals as goal

-- an answer of a turn
abbrev ok : Turn → Result Turn SiteFault
ok x = Ok x

pub loop-turn-init : goal.loop-turn-init
loop-turn-init g c =
    let told = g.S.Device.told in
    let book = g.S.Device.book in
    (3, refl, far-begun c.args.session c.args.self.now (tells (told c.args.site.now) (book c.args.site.now)) c.args.plan c.requires.planned, c.requires.stands, c.requires.room, grows-none c.args.session c.args.self.now, refl, g.S.Device.beside_same c.args.site.now)

pub turn-requires-clause-planned : goal.turn-requires-clause-planned
turn-requires-clause-planned g c =
    let told = g.S.Device.told in
    let book = g.S.Device.book in
    let is = c.loop-turn.invariant in
    planned-now is.0 c.loop-turn._turn is.1 c.loop-turn-test.true c.args.session c.args.self.now c.loop-turn.self (tells (told c.args.site.now) (book c.args.site.now)) (tells (told c.loop-turn.site) (book c.loop-turn.site)) c.loop-turn.plan is.2

pub returns-in-Ok-Said-clause-answers : goal.returns-in-Ok-Said-clause-answers
returns-in-Ok-Said-clause-answers g c =
    let told = g.S.Device.told in
    let book = g.S.Device.book in
    let is = c.loop-turn.invariant in
    let here = tells (told c.loop-turn.site) (book c.loop-turn.site) in
    let site = tells (told c.turn.new.site) (book c.turn.new.site) in
    said-now is.0 c.loop-turn._turn is.1 c.loop-turn-test.true c.args.session c.args.self.now c.loop-turn.self (tells (told c.args.site.now) (book c.args.site.now)) here c.loop-turn.plan is.2 c.turn.new.self site c.turn.ensures.setup c.in-Ok-Said.text
    (subst (λ x. TurnAnswers c.args.session c.loop-turn.self c.turn.new.self here site (Ok x)) c.in-Ok-Said.field-0-is c.in-Ok-Said.ensures.answers)

pub returns-in-Ok-Said-clause-grows : goal.returns-in-Ok-Said-clause-grows
returns-in-Ok-Said-clause-grows g c = grows-then c.args.session c.args.self.now c.loop-turn.self c.turn.new.self c.loop-turn.invariant.5 c.turn.ensures.grows

pub returns-in-Ok-Said-clause-beside : goal.returns-in-Ok-Said-clause-beside
returns-in-Ok-Said-clause-beside g c = g.S.Device.beside_then c.args.site.now c.loop-turn.site c.turn.new.site c.loop-turn.invariant.7 c.turn.ensures.beside

pub returns-in-Ok-Rested-clause-answers : goal.returns-in-Ok-Rested-clause-answers
returns-in-Ok-Rested-clause-answers g c =
    let told = g.S.Device.told in
    let book = g.S.Device.book in
    let is = c.loop-turn.invariant in
    let here = tells (told c.loop-turn.site) (book c.loop-turn.site) in
    let site = tells (told c.turn.new.site) (book c.turn.new.site) in
    rested-now is.0 c.loop-turn._turn is.1 c.loop-turn-test.true c.args.session c.args.self.now c.loop-turn.self (tells (told c.args.site.now) (book c.args.site.now)) here c.loop-turn.plan is.2 c.turn.new.self site c.turn.ensures.setup
    (subst (λ x. TurnAnswers c.args.session c.loop-turn.self c.turn.new.self here site (Ok x)) c.in-Ok-Rested.field-0-is c.in-Ok-Rested.ensures.answers)

pub returns-in-Ok-Rested-clause-grows : goal.returns-in-Ok-Rested-clause-grows
returns-in-Ok-Rested-clause-grows g c = grows-then c.args.session c.args.self.now c.loop-turn.self c.turn.new.self c.loop-turn.invariant.5 c.turn.ensures.grows

pub returns-in-Ok-Rested-clause-beside : goal.returns-in-Ok-Rested-clause-beside
returns-in-Ok-Rested-clause-beside g c = g.S.Device.beside_then c.args.site.now c.loop-turn.site c.turn.new.site c.loop-turn.invariant.7 c.turn.ensures.beside

pub returns-in-Err-clause-answers : goal.returns-in-Err-clause-answers
returns-in-Err-clause-answers g c =
    let told = g.S.Device.told in
    let book = g.S.Device.book in
    let is = c.loop-turn.invariant in
    let here = tells (told c.loop-turn.site) (book c.loop-turn.site) in
    let site = tells (told c.turn.new.site) (book c.turn.new.site) in
    broke-now is.0 c.loop-turn._turn is.1 c.loop-turn-test.true c.args.session c.args.self.now c.loop-turn.self (tells (told c.args.site.now) (book c.args.site.now)) here c.loop-turn.plan is.2 c.turn.new.self site c.turn.ensures.setup c.in-Err.fault c.in-Err.ensures.answers

pub returns-in-Err-clause-grows : goal.returns-in-Err-clause-grows
returns-in-Err-clause-grows g c = grows-then c.args.session c.args.self.now c.loop-turn.self c.turn.new.self c.loop-turn.invariant.5 c.turn.ensures.grows

pub returns-in-Err-clause-beside : goal.returns-in-Err-clause-beside
returns-in-Err-clause-beside g c = g.S.Device.beside_then c.args.site.now c.loop-turn.site c.turn.new.site c.loop-turn.invariant.7 c.turn.ensures.beside

pub loop-turn-preserved : goal.loop-turn-preserved
loop-turn-preserved g c =
    let told = g.S.Device.told in
    let book = g.S.Device.book in
    let is = c.loop-turn.invariant in
    let s = c.args.session in
    let start = c.args.self.now in
    let now = c.loop-turn.self in
    let before = tells (told c.args.site.now) (book c.args.site.now) in
    let here = tells (told c.loop-turn.site) (book c.loop-turn.site) in
    let site = tells (told c.turn.new.site) (book c.turn.new.site) in
    let i = c.loop-turn._turn in
    let plan = c.loop-turn.plan in
    let left = fewer is.0 i is.1 c.loop-turn-test.true s start now before here plan is.2 in
    let stored = c.in-Ok-Stored.is ∙ ap ok c.in-Ok-Stored.field-0-is in
    let far =
    stored-now is.0 i is.1 c.loop-turn-test.true s start now before here plan is.2 c.turn.new.self site c.turn.ensures.setup
    (subst (λ x. TurnAnswers s now c.turn.new.self here site (Ok x)) c.in-Ok-Stored.field-0-is c.in-Ok-Stored.ensures.answers) in (
      left,
      fewer-sum is.0 i is.1 c.loop-turn-test.true s start now before here plan is.2,
      subst (λ (p : PlanState). SoFar left s start before c.turn.new.self site p) (sym (c.turn.ensures.plan stored)) far,
      c.in-Ok-Stored.ensures.stands,
      room-after is.0 i is.1 c.loop-turn-test.true s start now before here plan is.2 now.journal c.turn.new.self.journal is.4 c.in-Ok-Stored.ensures.room,
      grows-then s start now c.turn.new.self is.5 c.turn.ensures.grows,
      omega (arith, is.6, c.in-Ok-Stored.ensures.cause.kept),
      g.S.Device.beside_then c.args.site.now c.loop-turn.site c.turn.new.site is.7 c.turn.ensures.beside,
    )

pub returns-clause-answers : goal.returns-clause-answers
returns-clause-answers g c =
    let told = g.S.Device.told in
    let book = g.S.Device.book in
    let is = c.loop-turn.invariant in
    let before = tells (told c.args.site.now) (book c.args.site.now) in
    let here = tells (told c.loop-turn.site) (book c.loop-turn.site) in
    let none = none-left is.0 c.loop-turn._turn is.1 c.loop-turn-test.false in
    far-ended c.args.session c.args.self.now c.loop-turn.self before here c.loop-turn.plan (subst (λ n. SoFar n c.args.session c.args.self.now before c.loop-turn.self here c.loop-turn.plan) none is.2)
