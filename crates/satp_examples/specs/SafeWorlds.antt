-- Worlds of the gateways alpha and beta, over ledgers of gold: which of them keep what every world that is reached keeps.
use Rattle.std.proofs.Common.{lit≤}
use Rattle.std.specs.Prelude.{◌≡◌, List, [], ◌∷◌, ◌++◌}
use Rattle.satp_base.specs.Chains.{next_text}
use Rattle.satp_base.specs.Money.{Book}
use Rattle.satp_base.specs.declared.ledger.Entry.TheVariants.{Locked, Assigned}
use Rattle.satp_base.specs.declared.message.Role.{Role}
use Rattle.satp_base.specs.declared.message.Role.TheVariants.{Origin, Recipient}
use Rattle.satp_base.specs.declared.message.Part.TheVariants.{Proposal}
use Rattle.satp_base.specs.declared.record.Rec.TheVariants.{Began}
use Rattle.satp_base.specs.declared.session.SessionId.{SessionId}
use Rattle.satp_sides.specs.Points.{Side, Text, with_record}
use Rattle.satp_world.specs.Worlds.{IsSafeWorld, Setting, World, start}
use Rattle.satp_examples.specs.Ledgers.{book_with, new_book, with_gold}
use Rattle.satp_examples.specs.Samples.{alpha, alpha_1, ann, beta, quarter}

-- no session, over this ledger
abbrev pub side_with : Book → Side
side_with book = record { records = []; book = book }

abbrev pub first : Side
first = side_with new_book

-- the session has been begun with this proposal
abbrev pub begun_with : Role → SessionId → Text → Side
begun_with role s text = with_record first s (Began role quarter) text

abbrev pub between : Side → Side → List Text → World
between a b bag = record { a = a; b = b; bag = bag }

-- the proposal of 250 units to beta
abbrev pub proposal_of : Setting → Text
proposal_of st = next_text alpha_1 beta st.key [] (Proposal quarter)

-- the gateways are alpha and beta
abbrev pub AreSafe : (Setting → World) → Type 0
AreSafe world = (st : Setting) → st.a ≡ alpha → st.b ≡ beta → IsSafeWorld st (world st)

abbrev pub AreUnsafe : (Setting → World) → Type 0
AreUnsafe world = (st : Setting) → st.a ≡ alpha → st.b ≡ beta → ¬ IsSafeWorld st (world st)

-- of another gateway
abbrev pub ann_1 : SessionId
ann_1 = record { gateway = ann; number = 1; low = lit≤ tt; high = lit≤ tt }

pub record WorldsThatAreSafe : Type 0 where
  pub at_first : AreSafe (λ st. start with_gold with_gold)
  pub proposed : AreSafe (λ st. between (begun_with Origin alpha_1 (proposal_of st)) first [])
  pub said : AreSafe (λ st. between (begun_with Origin alpha_1 (proposal_of st)) first (proposal_of st ∷ []))
  pub accepted : AreSafe (λ st. between (begun_with Origin alpha_1 (proposal_of st)) (begun_with Recipient alpha_1 (proposal_of st)) (proposal_of st ∷ []))
  -- the amount is assigned at beta, and was never locked at alpha
  pub not_free_on_both : AreUnsafe (λ st. between first (side_with (book_with Assigned)) [])
  pub not_locked_without_a_record : AreUnsafe (λ st. between (side_with (book_with Locked)) first [])
  pub not_accepted_before_it_is_proposed : AreUnsafe (λ st. between first (begun_with Recipient alpha_1 (proposal_of st)) [])
  pub not_said_before_it_is_recorded : AreUnsafe (λ st. between first first (proposal_of st ∷ []))
  -- the recipient's text has a byte more
  pub not_another_text_taken : AreUnsafe (λ st. between (begun_with Origin alpha_1 (proposal_of st)) (begun_with Recipient alpha_1 (proposal_of st ++ 0 ∷ [])) (proposal_of st ∷ []))
  pub not_of_another_gateway : AreUnsafe (λ st. between (begun_with Origin ann_1 (proposal_of st)) first [])
