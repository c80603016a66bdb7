use Rattle.std.proofs.Common.{◌≡◌, map, take}
use Rattle.std.specs.List.{All}
use Rattle.std.specs.Option.{option_copied}
use Rattle.satp_plan.specs.Plans.{IsMakingOf, after_taken}
use Rattle.satp_plan.specs.declared.planning.Making.{Making}
use Rattle.satp_plan.proofs.planning.makings.Given as goal

abbrev pub invariant-loop-part : goal.invariant-loop-part
invariant-loop-part l = record { parts : map (λ (making : Making). making.part) l.makings.items ≡ take l.part-index l.parts; made : All (IsMakingOf l.session (after_taken l.chain (option_copied l.taken)) l.key) l.makings.items }
