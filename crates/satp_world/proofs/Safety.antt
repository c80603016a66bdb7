-- A test that the table passes holds of each two halves that stand.
use Rattle.std.proofs.Common.{◌≡◌, Bool, true, List, [], ◌∷◌, ◌++◌, refl, sym, subst}
use Rattle.satp_base.specs.declared.message.Kind.{Kind}
use Rattle.satp_base.specs.declared.message.Kind.TheVariants.{TransferProposal}
use Rattle.satp_base.specs.Tales.{IsTale, has, maker}
use Rattle.satp_sides.specs.Halves.{Half}
use Rattle.satp_world.specs.Sessions.{Tied, Stands}
use Rattle.satp_world.specs.Sessions.Tied.{Same, Origin_ahead, Recipient_ahead}
use Rattle.satp_base.proofs.Finite.{all_of, andthen-left, andthen-right, all_of-at}
use Rattle.satp_world.proofs.TaleSteps.{begun-in, extensions, extension-in}
use Rattle.satp_world.proofs.HalfTable.{origins, recipients}
use Rattle.satp_world.proofs.HalfTest.{pairs_ok}
use Rattle.satp_world.proofs.SafeTest.{HoldsInTables, at_ahead, at_tale}
use Rattle.satp_world.proofs.HalfComplete.{head_of}
use Rattle.satp_world.proofs.StepLaw.{origin-in, recipient-in, pairs-at}

pub pair-tested : (f : Half → Half → Bool) → HoldsInTables f → (a b : Half) → Stands a b → f a b ≡ true
pair-tested f ok a b s = by_tie s.tied
  where
    at : (t : List Kind) → IsTale t → has TransferProposal t ≡ true → at_tale f (head_of a) (head_of b) t ≡ true
    at t i h = all_of-at (at_tale f (head_of a) (head_of b)) (begun-in t i h) (ok (head_of a) (head_of b))

    by_tie : Tied a.view.tale b.view.tale → f a b ≡ true
    by_tie (Same e) = pairs-at f (origins (head_of a) a.view.tale) (recipients (head_of b) a.view.tale) (origin-in a s.origin a.view.tale refl) (recipient-in b s.recipient a.view.tale (sym e)) (andthen-left (pairs_ok f (origins (head_of a) a.view.tale) (recipients (head_of b) a.view.tale)) (λ _. all_of (λ k. at_ahead f (head_of a) (head_of b) a.view.tale k (maker k)) (extensions a.view.tale)) (at a.view.tale s.origin.tale s.origin.begun))
    by_tie (Origin_ahead k m e) =
        let t = b.view.tale in
        let h = all_of-at (λ k. at_ahead f (head_of a) (head_of b) t k (maker k)) (extension-in t k s.recipient.tale (subst IsTale (sym e) s.origin.tale)) (andthen-right (pairs_ok f (origins (head_of a) t) (recipients (head_of b) t)) (λ _. all_of (λ k. at_ahead f (head_of a) (head_of b) t k (maker k)) (extensions t)) (at t s.recipient.tale s.recipient.begun)) in
        pairs-at f (origins (head_of a) (t ++ k ∷ [])) (recipients (head_of b) t) (origin-in a s.origin (t ++ k ∷ []) (sym e)) (recipient-in b s.recipient t refl) (subst (λ r. at_ahead f (head_of a) (head_of b) t k r ≡ true) m h)
    by_tie (Recipient_ahead k m e) =
        let t = a.view.tale in
        let h = all_of-at (λ k. at_ahead f (head_of a) (head_of b) t k (maker k)) (extension-in t k s.origin.tale (subst IsTale (sym e) s.recipient.tale)) (andthen-right (pairs_ok f (origins (head_of a) t) (recipients (head_of b) t)) (λ _. all_of (λ k. at_ahead f (head_of a) (head_of b) t k (maker k)) (extensions t)) (at t s.origin.tale s.origin.begun)) in
        pairs-at f (origins (head_of a) t) (recipients (head_of b) (t ++ k ∷ [])) (origin-in a s.origin t refl) (recipient-in b s.recipient (t ++ k ∷ []) (sym e)) (subst (λ r. at_ahead f (head_of a) (head_of b) t k r ≡ true) m h)
