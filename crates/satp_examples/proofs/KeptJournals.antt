-- The journal of a ledger's kind alone, and that of another kind.
use Rattle.std.proofs.Common.{◌≡◌, ℕ, zero, suc, List, [], ◌∷◌, refl, ap, arith}
use Rattle.std.specs.Prelude.{slice_index}
use Rattle.satp_base.specs.Acts.{founded}
use Rattle.satp_base.specs.GenesisText.{nothing}
use Rattle.satp_base.specs.declared.ledger.LedgerKind.TheVariants.{Accounts}
use Rattle.satp_keeper.specs.Books.{IsJournal}
use Rattle.satp_examples.specs.Keepers.{accounts, outputs}
use Rattle.satp_examples.proofs.Books.{no_genesis}

pub kind_alone : IsJournal Accounts (accounts ∷ [])
kind_alone = (founded nothing, (nothing, [], record { valid = no_genesis; runs = refl; list = refl }))

-- the byte at this place of the payload at that one
unfoldable pub byte_in : List (List ℕ) → ℕ → ℕ → ℕ
byte_in [] n k = 0
byte_in (q ∷ qs) zero k = slice_index q k
byte_in (q ∷ qs) (suc n) k = byte_in qs n k

pub other_kind : IsJournal Accounts (outputs ∷ []) → ⊥
unfolding byte_in
other_kind (book, (genesis, acts, l)) = let bad : 2 ≡ 1 = ap (λ qs. byte_in qs 0 1) l.list in absurd (omega (arith, bad))
