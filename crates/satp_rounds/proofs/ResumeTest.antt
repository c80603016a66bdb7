-- What each pair of halves comes to where it is resumed, tested.
use Rattle.std.proofs.Common.{Bool, List, nat_le}
use Rattle.satp_base.specs.declared.message.Kind.{Kind}
use Rattle.satp_base.specs.declared.message.Role.{Role}
use Rattle.satp_base.specs.declared.message.Role.TheVariants.{Origin, Recipient}
use Rattle.satp_base.specs.Roles.{either}
use Rattle.satp_base.specs.Tales.{is_whole, last_by}
use Rattle.satp_base.proofs.Finite.{all_of, andthen}
use Rattle.satp_sides.specs.Halves.{Half}
use Rattle.satp_sides.proofs.Lists.{bools}
use Rattle.satp_world.proofs.HalfTable.{Head}
use Rattle.satp_world.proofs.SafeTest.{at_tale}
use Rattle.satp_rounds.specs.Funds.{Funds, worked}
use Rattle.satp_rounds.specs.Rounds.{Pair, half_at, pair}
use Rattle.satp_rounds.proofs.RoundTest.{funds, rooms}
use Rattle.satp_rounds.specs.Transfers.{Talk, resumed}

abbrev pub own_test : Role → Half → Bool
own_test role h = either (is_whole h.view.tale) (last_by role h.view.tale)

abbrev pub whole_test : Role → Talk → Bool
whole_test role t = andthen (nat_le t.texts 11) λ _. is_whole (half_at role t.after).view.tale

abbrev pub resume_test : Role → Funds → Pair → Bool
resume_test role f s = andthen (own_test role (worked role f (half_at role s))) λ _. whole_test role (resumed role f s)

abbrev pub resumes_by : Funds → Pair → Bool
resumes_by f s = andthen (resume_test Origin f s) λ _. resume_test Recipient f s

abbrev pub resumes_test : Half → Half → Bool
resumes_test a b = all_of (λ l. all_of (λ m. resumes_by (funds l m) (pair a b)) rooms) bools

unfoldable pub resumes_at : Head → Head → List Kind → Bool
resumes_at p q t = at_tale resumes_test p q t
