use Rattle.std.proofs.Common.{◌≡◌, ◌≤◌, ℕ, false, List, [], ◌∷◌, ◌++◌, take, refl, lit≤, lit<}
use Rattle.satp_base.specs.Tales.{IsTale, comes_behind, eleven, last_of}
use Rattle.satp_base.specs.Tales.IsTale.{Onward, Rolling, Rejecting}
use Rattle.satp_base.specs.declared.message.Kind.{Kind}
use Rattle.satp_base.specs.declared.message.Kind.TheVariants.{TransferProposal, ProposalReceipt, TransferCommence, Reject, Rollback, Recover}
use Rattle.satp_base.proofs.TaleTable.{extends-by}
use Rattle.satp_examples.proofs.tales.law_tales.Goals as goal

front : (n : ℕ) → n ≤ 11 → IsTale (take n eleven)
front n h = Onward n h

-- the kind doesn't go on with the tale
refused : (tale : List Kind) (kind : Kind) → IsTale tale → comes_behind (last_of tale) kind ≡ false → ¬ IsTale (tale ++ kind ∷ [])
refused tale kind is none longer = let yes = extends-by tale kind is longer in absurd cc

pub returns-clause-forms : goal.returns-clause-forms
returns-clause-forms c = record {
  no_message = Onward 0 (lit≤ tt);
  all_eleven = Onward 11 (lit≤ tt);
  rollback_behind_two = Rolling 0 1 (lit< tt) (lit≤ tt);
  rolled_back_behind_eight = Rolling 3 2 (lit< tt) (lit≤ tt);
  rejected_behind_one = Rejecting 0 3 (lit< tt) (lit≤ tt);
  reject_behind_seven = Rejecting 3 1 (lit< tt) (lit≤ tt);
  not_without_a_proposal = refused [] ProposalReceipt (front 0 (lit≤ tt)) refl;
  not_past_a_kind = refused (TransferProposal ∷ []) TransferCommence (front 1 (lit≤ tt)) refl;
  not_behind_the_last = refused eleven Rollback (front 11 (lit≤ tt)) refl;
  no_rollback_behind_its_own = refused (take 1 eleven) Rollback (front 1 (lit≤ tt)) refl;
  no_rollback_behind_ten = refused (take 10 eleven) Rollback (front 10 (lit≤ tt)) refl;
  no_reject_behind_its_own = refused (take 2 eleven) Reject (front 2 (lit≤ tt)) refl;
  no_reject_behind_nine = refused (take 9 eleven) Reject (front 9 (lit≤ tt)) refl;
  no_second_rollback = refused (take 2 eleven ++ Rollback ∷ []) Rollback (Rolling 0 1 (lit< tt) (lit≤ tt)) refl;
  no_recovery = refused (TransferProposal ∷ []) Recover (front 1 (lit≤ tt)) refl;
}
