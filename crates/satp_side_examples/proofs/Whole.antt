-- The records of a whole session, each of which may come after those before it.
use Rattle.std.proofs.Common.{ℕ, List, [], take, refl, lit≤, lit<}
use Rattle.satp_base.specs.Roles.RoleRule.{Due, Answered, Free}
use Rattle.satp_base.specs.Tales.IsTale.{Onward, Rolling, Rejecting}
use Rattle.satp_base.specs.declared.ledger.Answer.TheVariants as answer
use Rattle.satp_base.specs.declared.ledger.LedgerOp.TheVariants.{Lock, Burn, Mint, Assign, Release}
use Rattle.satp_base.specs.declared.message.Kind.TheVariants.{ProposalReceipt, TransferCommence, CommenceAck, LockAssert, LockReceipt, CommitPrepare, CommitReady, CommitFinal, CommitFinalAck, TransferComplete, Rollback, RollbackAck}
use Rattle.satp_base.specs.declared.message.Part.TheVariants.{Plain}
use Rattle.satp_base.specs.declared.message.Part.TheVariants as part
use Rattle.satp_base.specs.declared.message.Reason.{Reason}
use Rattle.satp_base.specs.declared.record.Cause.TheVariants.{LockRefused, MintCapped}
use Rattle.satp_base.specs.declared.message.Terms.{Terms}
use Rattle.satp_base.specs.declared.record.Rec.TheVariants.{Did, Chose}
use Rattle.satp_base.specs.declared.record.Way.TheVariants.{Commit, Back}
use Rattle.satp_sides.specs.Logs.{IsLog}
use Rattle.satp_sides.specs.Logs.MayCome.{Starts, Accepts, Takes, Makes, Notes}
use Rattle.satp_sides.proofs.LogLaw.{log-grows}
use Rattle.satp_side_examples.specs.Journals.{refused_text, rejected_text, whole_text}
use Rattle.satp_side_examples.specs.Samples.{alpha_1, alpha_records, at_alpha, at_beta, beta_records, capped_at_beta, refused_at_alpha}

module _ (key : List ℕ) (terms : Terms) where
  b1 : IsLog (at_beta key) (take 1 (beta_records terms (whole_text key terms)))
  b1 = (log-grows (at_beta key)).more [] _ (log-grows (at_beta key)).none (Accepts alpha_1 terms refl refl (lit< tt))

  b2 : IsLog (at_beta key) (take 2 (beta_records terms (whole_text key terms)))
  b2 = (log-grows (at_beta key)).more (take 1 (beta_records terms (whole_text key terms))) _ b1 (Makes alpha_1 _ (Plain ProposalReceipt) refl (Due refl) refl)

  b3 : IsLog (at_beta key) (take 3 (beta_records terms (whole_text key terms)))
  b3 = (log-grows (at_beta key)).more (take 2 (beta_records terms (whole_text key terms))) _ b2 (Takes alpha_1 _ (Plain TransferCommence) refl (Free (refl, Onward 3 (lit≤ tt))) refl)

  b4 : IsLog (at_beta key) (take 4 (beta_records terms (whole_text key terms)))
  b4 = (log-grows (at_beta key)).more (take 3 (beta_records terms (whole_text key terms))) _ b3 (Makes alpha_1 _ (Plain CommenceAck) refl (Due refl) refl)

  b5 : IsLog (at_beta key) (take 5 (beta_records terms (whole_text key terms)))
  b5 = (log-grows (at_beta key)).more (take 4 (beta_records terms (whole_text key terms))) _ b4 (Takes alpha_1 _ (Plain LockAssert) refl (Free (refl, Onward 5 (lit≤ tt))) refl)

  b6 : IsLog (at_beta key) (take 6 (beta_records terms (whole_text key terms)))
  b6 = (log-grows (at_beta key)).more (take 5 (beta_records terms (whole_text key terms))) _ b5 (Makes alpha_1 _ (Plain LockReceipt) refl (Due refl) refl)

  b7 : IsLog (at_beta key) (take 7 (beta_records terms (whole_text key terms)))
  b7 = (log-grows (at_beta key)).more (take 6 (beta_records terms (whole_text key terms))) _ b6 (Takes alpha_1 _ (Plain CommitPrepare) refl (Free (refl, Onward 7 (lit≤ tt))) refl)

  b8 : IsLog (at_beta key) (take 8 (beta_records terms (whole_text key terms)))
  b8 = (log-grows (at_beta key)).more (take 7 (beta_records terms (whole_text key terms))) _ b7 (Notes alpha_1 _ (Did Mint) refl (Answered Mint answer.Done refl refl) tt)

  b9 : IsLog (at_beta key) (take 9 (beta_records terms (whole_text key terms)))
  b9 = (log-grows (at_beta key)).more (take 8 (beta_records terms (whole_text key terms))) _ b8 (Makes alpha_1 _ (Plain CommitReady) refl (Due refl) refl)

  b10 : IsLog (at_beta key) (take 10 (beta_records terms (whole_text key terms)))
  b10 = (log-grows (at_beta key)).more (take 9 (beta_records terms (whole_text key terms))) _ b9 (Takes alpha_1 _ (Plain CommitFinal) refl (Free (refl, Onward 9 (lit≤ tt))) refl)

  b11 : IsLog (at_beta key) (take 11 (beta_records terms (whole_text key terms)))
  b11 = (log-grows (at_beta key)).more (take 10 (beta_records terms (whole_text key terms))) _ b10 (Notes alpha_1 _ (Did Assign) refl (Answered Assign answer.Done refl refl) tt)

  b12 : IsLog (at_beta key) (take 12 (beta_records terms (whole_text key terms)))
  b12 = (log-grows (at_beta key)).more (take 11 (beta_records terms (whole_text key terms))) _ b11 (Makes alpha_1 _ (Plain CommitFinalAck) refl (Due refl) refl)

  b13 : IsLog (at_beta key) (take 13 (beta_records terms (whole_text key terms)))
  b13 = (log-grows (at_beta key)).more (take 12 (beta_records terms (whole_text key terms))) _ b12 (Takes alpha_1 _ (Plain TransferComplete) refl (Free (refl, Onward 11 (lit≤ tt))) refl)

  a1 : IsLog (at_alpha key) (take 1 (alpha_records terms (whole_text key terms)))
  a1 = (log-grows (at_alpha key)).more [] _ (log-grows (at_alpha key)).none (Starts alpha_1 terms refl refl (lit< tt))

  a2 : IsLog (at_alpha key) (take 2 (alpha_records terms (whole_text key terms)))
  a2 = (log-grows (at_alpha key)).more (take 1 (alpha_records terms (whole_text key terms))) _ a1 (Takes alpha_1 _ (Plain ProposalReceipt) refl (Free (refl, Onward 2 (lit≤ tt))) refl)

  a3 : IsLog (at_alpha key) (take 3 (alpha_records terms (whole_text key terms)))
  a3 = (log-grows (at_alpha key)).more (take 2 (alpha_records terms (whole_text key terms))) _ a2 (Makes alpha_1 _ (Plain TransferCommence) refl (Due refl) refl)

  a4 : IsLog (at_alpha key) (take 4 (alpha_records terms (whole_text key terms)))
  a4 = (log-grows (at_alpha key)).more (take 3 (alpha_records terms (whole_text key terms))) _ a3 (Takes alpha_1 _ (Plain CommenceAck) refl (Free (refl, Onward 4 (lit≤ tt))) refl)

  a5 : IsLog (at_alpha key) (take 5 (alpha_records terms (whole_text key terms)))
  a5 = (log-grows (at_alpha key)).more (take 4 (alpha_records terms (whole_text key terms))) _ a4 (Notes alpha_1 _ (Did Lock) refl (Answered Lock answer.Done refl refl) tt)

  a6 : IsLog (at_alpha key) (take 6 (alpha_records terms (whole_text key terms)))
  a6 = (log-grows (at_alpha key)).more (take 5 (alpha_records terms (whole_text key terms))) _ a5 (Makes alpha_1 _ (Plain LockAssert) refl (Due refl) refl)

  a7 : IsLog (at_alpha key) (take 7 (alpha_records terms (whole_text key terms)))
  a7 = (log-grows (at_alpha key)).more (take 6 (alpha_records terms (whole_text key terms))) _ a6 (Takes alpha_1 _ (Plain LockReceipt) refl (Free (refl, Onward 6 (lit≤ tt))) refl)

  a8 : IsLog (at_alpha key) (take 8 (alpha_records terms (whole_text key terms)))
  a8 = (log-grows (at_alpha key)).more (take 7 (alpha_records terms (whole_text key terms))) _ a7 (Makes alpha_1 _ (Plain CommitPrepare) refl (Due refl) refl)

  a9 : IsLog (at_alpha key) (take 9 (alpha_records terms (whole_text key terms)))
  a9 = (log-grows (at_alpha key)).more (take 8 (alpha_records terms (whole_text key terms))) _ a8 (Takes alpha_1 _ (Plain CommitReady) refl (Free (refl, Onward 8 (lit≤ tt))) refl)

  a10 : IsLog (at_alpha key) (take 10 (alpha_records terms (whole_text key terms)))
  a10 = (log-grows (at_alpha key)).more (take 9 (alpha_records terms (whole_text key terms))) _ a9 (Notes alpha_1 _ (Chose Commit) refl (Due refl) tt)

  a11 : IsLog (at_alpha key) (take 11 (alpha_records terms (whole_text key terms)))
  a11 = (log-grows (at_alpha key)).more (take 10 (alpha_records terms (whole_text key terms))) _ a10 (Notes alpha_1 _ (Did Burn) refl (Answered Burn answer.Done refl refl) tt)

  a12 : IsLog (at_alpha key) (take 12 (alpha_records terms (whole_text key terms)))
  a12 = (log-grows (at_alpha key)).more (take 11 (alpha_records terms (whole_text key terms))) _ a11 (Makes alpha_1 _ (Plain CommitFinal) refl (Due refl) refl)

  a13 : IsLog (at_alpha key) (take 13 (alpha_records terms (whole_text key terms)))
  a13 = (log-grows (at_alpha key)).more (take 12 (alpha_records terms (whole_text key terms))) _ a12 (Takes alpha_1 _ (Plain CommitFinalAck) refl (Free (refl, Onward 10 (lit≤ tt))) refl)

  a14 : IsLog (at_alpha key) (take 14 (alpha_records terms (whole_text key terms)))
  a14 = (log-grows (at_alpha key)).more (take 13 (alpha_records terms (whole_text key terms))) _ a13 (Makes alpha_1 _ (Plain TransferComplete) refl (Due refl) refl)

pub of-beta : (key : List ℕ) (terms : Terms) → IsLog (at_beta key) (beta_records terms (whole_text key terms))
of-beta key terms = b13 key terms

pub of-alpha : (key : List ℕ) (terms : Terms) → IsLog (at_alpha key) (alpha_records terms (whole_text key terms))
of-alpha key terms = a14 key terms

module _ (key : List ℕ) (terms : Terms) where
  r1 : IsLog (at_alpha key) (take 1 (refused_at_alpha terms (refused_text key terms)))
  r1 = (log-grows (at_alpha key)).more [] _ (log-grows (at_alpha key)).none (Starts alpha_1 terms refl refl (lit< tt))

  r2 : IsLog (at_alpha key) (take 2 (refused_at_alpha terms (refused_text key terms)))
  r2 = (log-grows (at_alpha key)).more (take 1 (refused_at_alpha terms (refused_text key terms))) _ r1 (Takes alpha_1 _ (Plain ProposalReceipt) refl (Free (refl, Onward 2 (lit≤ tt))) refl)

  r3 : IsLog (at_alpha key) (take 3 (refused_at_alpha terms (refused_text key terms)))
  r3 = (log-grows (at_alpha key)).more (take 2 (refused_at_alpha terms (refused_text key terms))) _ r2 (Makes alpha_1 _ (Plain TransferCommence) refl (Due refl) refl)

  r4 : IsLog (at_alpha key) (take 4 (refused_at_alpha terms (refused_text key terms)))
  r4 = (log-grows (at_alpha key)).more (take 3 (refused_at_alpha terms (refused_text key terms))) _ r3 (Takes alpha_1 _ (Plain CommenceAck) refl (Free (refl, Onward 4 (lit≤ tt))) refl)

  r5 : IsLog (at_alpha key) (take 5 (refused_at_alpha terms (refused_text key terms)))
  r5 = (log-grows (at_alpha key)).more (take 4 (refused_at_alpha terms (refused_text key terms))) _ r4 (Notes alpha_1 _ (Chose (Back LockRefused)) refl (Answered Lock (answer.NoFunds 0) refl refl) tt)

  r6 : IsLog (at_alpha key) (take 6 (refused_at_alpha terms (refused_text key terms)))
  r6 = (log-grows (at_alpha key)).more (take 5 (refused_at_alpha terms (refused_text key terms))) _ r5 (Notes alpha_1 _ (Did Release) refl (Answered Release answer.Done refl refl) tt)

  r7 : IsLog (at_alpha key) (take 7 (refused_at_alpha terms (refused_text key terms)))
  r7 = (log-grows (at_alpha key)).more (take 6 (refused_at_alpha terms (refused_text key terms))) _ r6 (Makes alpha_1 _ (Plain Rollback) refl (Due refl) refl)

  r8 : IsLog (at_alpha key) (take 8 (refused_at_alpha terms (refused_text key terms)))
  r8 = (log-grows (at_alpha key)).more (take 7 (refused_at_alpha terms (refused_text key terms))) _ r7 (Takes alpha_1 _ (Plain RollbackAck) refl (Free (refl, Rolling 1 2 (lit< tt) (lit≤ tt))) refl)

module _ (key : List ℕ) (terms : Terms) (reason : Reason) where
  m1 : IsLog (at_beta key) (take 1 (capped_at_beta terms (rejected_text key terms reason)))
  m1 = (log-grows (at_beta key)).more [] _ (log-grows (at_beta key)).none (Accepts alpha_1 terms refl refl (lit< tt))

  m2 : IsLog (at_beta key) (take 2 (capped_at_beta terms (rejected_text key terms reason)))
  m2 = (log-grows (at_beta key)).more (take 1 (capped_at_beta terms (rejected_text key terms reason))) _ m1 (Makes alpha_1 _ (Plain ProposalReceipt) refl (Due refl) refl)

  m3 : IsLog (at_beta key) (take 3 (capped_at_beta terms (rejected_text key terms reason)))
  m3 = (log-grows (at_beta key)).more (take 2 (capped_at_beta terms (rejected_text key terms reason))) _ m2 (Takes alpha_1 _ (Plain TransferCommence) refl (Free (refl, Onward 3 (lit≤ tt))) refl)

  m4 : IsLog (at_beta key) (take 4 (capped_at_beta terms (rejected_text key terms reason)))
  m4 = (log-grows (at_beta key)).more (take 3 (capped_at_beta terms (rejected_text key terms reason))) _ m3 (Makes alpha_1 _ (Plain CommenceAck) refl (Due refl) refl)

  m5 : IsLog (at_beta key) (take 5 (capped_at_beta terms (rejected_text key terms reason)))
  m5 = (log-grows (at_beta key)).more (take 4 (capped_at_beta terms (rejected_text key terms reason))) _ m4 (Takes alpha_1 _ (Plain LockAssert) refl (Free (refl, Onward 5 (lit≤ tt))) refl)

  m6 : IsLog (at_beta key) (take 6 (capped_at_beta terms (rejected_text key terms reason)))
  m6 = (log-grows (at_beta key)).more (take 5 (capped_at_beta terms (rejected_text key terms reason))) _ m5 (Makes alpha_1 _ (Plain LockReceipt) refl (Due refl) refl)

  m7 : IsLog (at_beta key) (take 7 (capped_at_beta terms (rejected_text key terms reason)))
  m7 = (log-grows (at_beta key)).more (take 6 (capped_at_beta terms (rejected_text key terms reason))) _ m6 (Takes alpha_1 _ (Plain CommitPrepare) refl (Free (refl, Onward 7 (lit≤ tt))) refl)

  m8 : IsLog (at_beta key) (take 8 (capped_at_beta terms (rejected_text key terms reason)))
  m8 = (log-grows (at_beta key)).more (take 7 (capped_at_beta terms (rejected_text key terms reason))) _ m7 (Notes alpha_1 _ (Chose (Back MintCapped)) refl (Answered Mint (answer.Capped 0) refl refl) tt)

  m9 : IsLog (at_beta key) (take 9 (capped_at_beta terms (rejected_text key terms reason)))
  m9 = (log-grows (at_beta key)).more (take 8 (capped_at_beta terms (rejected_text key terms reason))) _ m8 (Makes alpha_1 _ (part.Reject reason) refl (Due refl) tt)

  m10 : IsLog (at_beta key) (take 10 (capped_at_beta terms (rejected_text key terms reason)))
  m10 = (log-grows (at_beta key)).more (take 9 (capped_at_beta terms (rejected_text key terms reason))) _ m9 (Takes alpha_1 _ (Plain Rollback) refl (Free (refl, Rejecting 3 2 (lit< tt) (lit≤ tt))) refl)

  m11 : IsLog (at_beta key) (take 11 (capped_at_beta terms (rejected_text key terms reason)))
  m11 = (log-grows (at_beta key)).more (take 10 (capped_at_beta terms (rejected_text key terms reason))) _ m10 (Makes alpha_1 _ (Plain RollbackAck) refl (Due refl) refl)

pub of-lock : (key : List ℕ) (terms : Terms) → IsLog (at_alpha key) (refused_at_alpha terms (refused_text key terms))
of-lock key terms = r8 key terms

pub of-mint : (key : List ℕ) (terms : Terms) (reason : Reason) → IsLog (at_beta key) (capped_at_beta terms (rejected_text key terms reason))
of-mint key terms reason = m11 key terms reason
