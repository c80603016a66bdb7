-- Lost proposals and new sessions, computed.
use Rattle.std.proofs.Common.{◌≡◌, Bool, true, false, [], ◌∷◌, refl}
use Rattle.satp_base.proofs.Finite.{all_of}
use Rattle.satp_base.specs.declared.message.Kind.TheVariants.{TransferProposal}
use Rattle.satp_base.specs.declared.message.Role.TheVariants.{Origin, Recipient}
use Rattle.satp_base.specs.declared.message.Terms.{Terms}
use Rattle.satp_sides.proofs.Lists.{bools}
use Rattle.satp_sides.specs.Halves.{Half}
use Rattle.satp_world.proofs.HalfTable.{Head, origins}
use Rattle.satp_rounds.proofs.ResumeTest.{resume_test}
use Rattle.satp_rounds.proofs.RoundTest.{ends_in, ends_well, funds, rooms}
use Rattle.satp_rounds.specs.Funds.{Funds, Enough, Unknown, Over}
use Rattle.satp_rounds.specs.Rounds.{commits, pair, round}
use Rattle.satp_rounds.specs.Transfers.{transferred, unnamed}

abbrev pub lost_by : Terms → Half → Funds → Bool
lost_by terms a f = ends_well (commits f (pair a (unnamed Recipient terms))) (round Origin f (pair a (unnamed Recipient terms)))

pub lost_ok : (p : Head) (terms : Terms) → all_of (λ a. all_of (λ l. all_of (λ m. lost_by terms a (funds l m)) rooms) bools) (origins p (TransferProposal ∷ [])) ≡ true
lost_ok p terms = refl

abbrev pub alone_by : Terms → Half → Funds → Bool
alone_by terms a f = resume_test Origin f (pair a (unnamed Recipient terms))

pub alone_ok : (p : Head) (terms : Terms) → all_of (λ a. all_of (λ l. all_of (λ m. alone_by terms a (funds l m)) rooms) bools) (origins p (TransferProposal ∷ [])) ≡ true
alone_ok p terms = refl

pub accepted_ok : (terms : Terms) → ends_in 11 true (transferred (funds true Enough) terms) ≡ true
accepted_ok terms = refl

pub unknown_ok : (terms : Terms) → ends_in 11 false (transferred (funds true Unknown) terms) ≡ true
unknown_ok terms = refl

pub over_ok : (terms : Terms) → ends_in 11 false (transferred (funds true Over) terms) ≡ true
over_ok terms = refl

pub unlocked_ok : (terms : Terms) → ends_in 11 false (transferred (funds false Enough) terms) ≡ true
unlocked_ok terms = refl

pub unlocked_unknown_ok : (terms : Terms) → ends_in 11 false (transferred (funds false Unknown) terms) ≡ true
unlocked_unknown_ok terms = refl

pub unlocked_over_ok : (terms : Terms) → ends_in 11 false (transferred (funds false Over) terms) ≡ true
unlocked_over_ok terms = refl
