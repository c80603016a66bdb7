use Rattle.std.proofs.Common.{◌≡◌, ◌≢◌, length, take, ◌<◌, ◌⊎◌, ℕ, true, false, ap, refl, inl, inr, arith, lit<, rules}
use Rattle.satp_base.specs.Tales.{eleven}
use Rattle.satp_base.specs.declared.ledger.Entry.TheVariants.{Absent, Locked, Burnt, Minted, Assigned, Released}
use Rattle.satp_base.specs.declared.message.Kind.TheVariants.{TransferCommence, CommenceAck}
use Rattle.satp_base.specs.declared.message.Role.{Role}
use Rattle.satp_base.specs.declared.message.Role.TheVariants.{Origin, Recipient}
use Rattle.satp_world.specs.Deal.{Deal, Decision, DealStep}
use Rattle.satp_world.specs.Deal.DealStep.{Locks, Mints, Readies, Commits, Origin_backs, Recipient_backs, Burns, Assigns, Origin_releases, Recipient_releases}
use Rattle.satp_world.specs.Sessions.{Reaches, Tied, unbegun}
use Rattle.satp_world.specs.Sessions.Tied.{Same, Origin_ahead, Recipient_ahead}
use Rattle.satp_world.proofs.SafeLaw.{law_sessions}
use Rattle.satp_examples.proofs.deals.law_deals.Goals as goal

-- ---- steps: what was so before where this is so behind

burnt_by : (d c : Deal) (r : Role) → DealStep d r c → d.a ≡ Locked → c.a ≡ Burnt → d.v ≡ Decision.Commit
burnt_by d c r (Locks a v) was is = absurd cc
burnt_by d c r (Mints a b) was is = absurd cc
burnt_by d c r (Readies b) was is = absurd cc
burnt_by d c r (Commits v ready a) was is = absurd cc
burnt_by d c r (Origin_backs v) was is = absurd cc
burnt_by d c r (Recipient_backs v ready) was is = absurd cc
burnt_by d c r (Burns v a) was is = v
burnt_by d c r (Assigns a b) was is = absurd cc
burnt_by d c r (Origin_releases v a) was is = absurd cc
burnt_by d c r (Recipient_releases v b) was is = absurd cc

committed_by : (d c : Deal) (r : Role) → DealStep d r c → d.v ≡ Decision.Open → c.v ≡ Decision.Commit → d.ready ≡ true
committed_by d c r (Locks a v) was is = absurd cc
committed_by d c r (Mints a b) was is = absurd cc
committed_by d c r (Readies b) was is = absurd cc
committed_by d c r (Commits v ready a) was is = ready
committed_by d c r (Origin_backs v) was is = absurd cc
committed_by d c r (Recipient_backs v ready) was is = absurd cc
committed_by d c r (Burns v a) was is = absurd cc
committed_by d c r (Assigns a b) was is = absurd cc
committed_by d c r (Origin_releases v a) was is = absurd cc
committed_by d c r (Recipient_releases v b) was is = absurd cc

assigned_by : (d c : Deal) (r : Role) → DealStep d r c → d.b ≡ Minted → c.b ≡ Assigned → d.a ≡ Burnt
assigned_by d c r (Locks a v) was is = absurd cc
assigned_by d c r (Mints a b) was is = absurd cc
assigned_by d c r (Readies b) was is = absurd cc
assigned_by d c r (Commits v ready a) was is = absurd cc
assigned_by d c r (Origin_backs v) was is = absurd cc
assigned_by d c r (Recipient_backs v ready) was is = absurd cc
assigned_by d c r (Burns v a) was is = absurd cc
assigned_by d c r (Assigns a b) was is = a
assigned_by d c r (Origin_releases v a) was is = absurd cc
assigned_by d c r (Recipient_releases v b) was is = absurd cc

released_by : (d c : Deal) (r : Role) → DealStep d r c → d.a ≡ Locked → c.a ≡ Released → d.v ≡ Decision.Back
released_by d c r (Locks a v) was is = absurd cc
released_by d c r (Mints a b) was is = absurd cc
released_by d c r (Readies b) was is = absurd cc
released_by d c r (Commits v ready a) was is = absurd cc
released_by d c r (Origin_backs v) was is = absurd cc
released_by d c r (Recipient_backs v ready) was is = absurd cc
released_by d c r (Burns v a) was is = absurd cc
released_by d c r (Assigns a b) was is = absurd cc
released_by d c r (Origin_releases v a) was is = v
released_by d c r (Recipient_releases v b) was is = absurd cc

turned_by : (d c : Deal) (r : Role) → DealStep d r c → r ≡ Recipient → d.v ≡ Decision.Open → c.v ≡ Decision.Back → d.ready ≡ false
turned_by d c r (Locks a v) role was is = absurd cc
turned_by d c r (Mints a b) role was is = absurd cc
turned_by d c r (Readies b) role was is = absurd cc
turned_by d c r (Commits v ready a) role was is = absurd cc
turned_by d c r (Origin_backs v) role was is = absurd cc
turned_by d c r (Recipient_backs v ready) role was is = ready
turned_by d c r (Burns v a) role was is = absurd cc
turned_by d c r (Assigns a b) role was is = absurd cc
turned_by d c r (Origin_releases v a) role was is = absurd cc
turned_by d c r (Recipient_releases v b) role was is = absurd cc

locked_by : (d c : Deal) (r : Role) → DealStep d r c → d.a ≡ Absent → c.a ≡ Locked → r ≡ Origin
locked_by d c r (Locks a v) was is = refl
locked_by d c r (Mints a b) was is = absurd cc
locked_by d c r (Readies b) was is = absurd cc
locked_by d c r (Commits v ready a) was is = absurd cc
locked_by d c r (Origin_backs v) was is = absurd cc
locked_by d c r (Recipient_backs v ready) was is = absurd cc
locked_by d c r (Burns v a) was is = absurd cc
locked_by d c r (Assigns a b) was is = absurd cc
locked_by d c r (Origin_releases v a) was is = absurd cc
locked_by d c r (Recipient_releases v b) was is = absurd cc

turns_back_by : (d c : Deal) (r : Role) → DealStep d r c → d.v ≡ Decision.Commit → c.v ≡ Decision.Back → ⊥
turns_back_by d c r (Locks a v) was is = absurd cc
turns_back_by d c r (Mints a b) was is = absurd cc
turns_back_by d c r (Readies b) was is = absurd cc
turns_back_by d c r (Commits v ready a) was is = absurd cc
turns_back_by d c r (Origin_backs v) was is = absurd cc
turns_back_by d c r (Recipient_backs v ready) was is = absurd cc
turns_back_by d c r (Burns v a) was is = absurd cc
turns_back_by d c r (Assigns a b) was is = absurd cc
turns_back_by d c r (Origin_releases v a) was is = absurd cc
turns_back_by d c r (Recipient_releases v b) was is = absurd cc

minted_by : (d c : Deal) (r : Role) → DealStep d r c → d.b ≡ Absent → c.b ≡ Minted → (d.a ≡ Locked) ⊎ (d.a ≡ Released)
minted_by d c r (Locks a v) was is = absurd cc
minted_by d c r (Mints a b) was is = a
minted_by d c r (Readies b) was is = absurd cc
minted_by d c r (Commits v ready a) was is = absurd cc
minted_by d c r (Origin_backs v) was is = absurd cc
minted_by d c r (Recipient_backs v ready) was is = absurd cc
minted_by d c r (Burns v a) was is = absurd cc
minted_by d c r (Assigns a b) was is = absurd cc
minted_by d c r (Origin_releases v a) was is = absurd cc
minted_by d c r (Recipient_releases v b) was is = absurd cc

readied_by : (d c : Deal) (r : Role) → DealStep d r c → d.ready ≡ false → c.ready ≡ true → d.b ≡ Minted
readied_by d c r (Locks a v) was is = absurd cc
readied_by d c r (Mints a b) was is = absurd cc
readied_by d c r (Readies b) was is = b
readied_by d c r (Commits v ready a) was is = absurd cc
readied_by d c r (Origin_backs v) was is = absurd cc
readied_by d c r (Recipient_backs v ready) was is = absurd cc
readied_by d c r (Burns v a) was is = absurd cc
readied_by d c r (Assigns a b) was is = absurd cc
readied_by d c r (Origin_releases v a) was is = absurd cc
readied_by d c r (Recipient_releases v b) was is = absurd cc

burns_by : (d c : Deal) (r : Role) → DealStep d r c → d.a ≡ Absent → c.a ≡ Burnt → ⊥
burns_by d c r (Locks a v) was is = absurd cc
burns_by d c r (Mints a b) was is = absurd cc
burns_by d c r (Readies b) was is = absurd cc
burns_by d c r (Commits v ready a) was is = absurd cc
burns_by d c r (Origin_backs v) was is = absurd cc
burns_by d c r (Recipient_backs v ready) was is = absurd cc
burns_by d c r (Burns v a) was is = absurd cc
burns_by d c r (Assigns a b) was is = absurd cc
burns_by d c r (Origin_releases v a) was is = absurd cc
burns_by d c r (Recipient_releases v b) was is = absurd cc

assigns_by : (d c : Deal) (r : Role) → DealStep d r c → d.b ≡ Absent → c.b ≡ Assigned → ⊥
assigns_by d c r (Locks a v) was is = absurd cc
assigns_by d c r (Mints a b) was is = absurd cc
assigns_by d c r (Readies b) was is = absurd cc
assigns_by d c r (Commits v ready a) was is = absurd cc
assigns_by d c r (Origin_backs v) was is = absurd cc
assigns_by d c r (Recipient_backs v ready) was is = absurd cc
assigns_by d c r (Burns v a) was is = absurd cc
assigns_by d c r (Assigns a b) was is = absurd cc
assigns_by d c r (Origin_releases v a) was is = absurd cc
assigns_by d c r (Recipient_releases v b) was is = absurd cc

let_go_by : (d c : Deal) (r : Role) → DealStep d r c → d.b ≡ Minted → c.b ≡ Released → d.v ≡ Decision.Back
let_go_by d c r (Locks a v) was is = absurd cc
let_go_by d c r (Mints a b) was is = absurd cc
let_go_by d c r (Readies b) was is = absurd cc
let_go_by d c r (Commits v ready a) was is = absurd cc
let_go_by d c r (Origin_backs v) was is = absurd cc
let_go_by d c r (Recipient_backs v ready) was is = absurd cc
let_go_by d c r (Burns v a) was is = absurd cc
let_go_by d c r (Assigns a b) was is = absurd cc
let_go_by d c r (Origin_releases v a) was is = absurd cc
let_go_by d c r (Recipient_releases v b) was is = v

locks_by : (d c : Deal) (r : Role) → DealStep d r c → d.a ≡ Absent → c.a ≡ Locked → d.v ≢ Decision.Commit
locks_by d c r (Locks a v) was is = v
locks_by d c r (Mints a b) was is = absurd cc
locks_by d c r (Readies b) was is = absurd cc
locks_by d c r (Commits v ready a) was is = absurd cc
locks_by d c r (Origin_backs v) was is = absurd cc
locks_by d c r (Recipient_backs v ready) was is = absurd cc
locks_by d c r (Burns v a) was is = absurd cc
locks_by d c r (Assigns a b) was is = absurd cc
locks_by d c r (Origin_releases v a) was is = absurd cc
locks_by d c r (Recipient_releases v b) was is = absurd cc

never_minted : (Absent ≡ Locked) ⊎ (Absent ≡ Released) → ⊥
never_minted (inl e) = cc e
never_minted (inr e) = cc e

pub returns-clause-steps : goal.returns-clause-steps
returns-clause-steps c = record {
  locks = Locks refl (search rules);
  mints = Mints (inl refl) refl;
  readies = Readies refl;
  commits = Commits refl refl refl;
  burns = Burns refl refl;
  assigns = Assigns refl refl;
  backs = Recipient_backs refl refl;
  releases = Origin_releases refl (inr refl);
  no_burn_undecided = λ s. let bad = burnt_by _ _ _ s refl refl in absurd cc;
  no_commit_before_ready = λ s. let bad = committed_by _ _ _ s refl refl in absurd cc;
  no_assignment_before_the_burn = λ s. let bad = assigned_by _ _ _ s refl refl in absurd cc;
  no_release_behind_a_commit = λ s. let bad = released_by _ _ _ s refl refl in absurd cc;
  no_recipients_back_behind_ready = λ s. let bad = turned_by _ _ _ s refl refl refl in absurd cc;
  no_lock_by_the_recipient = λ s. let bad = locked_by _ _ _ s refl refl in absurd cc;
  no_origins_back_after_commit = λ s. turns_back_by _ _ _ s refl refl;
  no_mint_before_the_lock = λ s. never_minted (minted_by _ _ _ s refl refl);
  no_readiness_before_the_mint = λ s. let bad = readied_by _ _ _ s refl refl in absurd cc;
  no_burn_of_what_is_not_locked = λ s. burns_by _ _ _ s refl refl;
  no_assignment_of_what_is_not_minted = λ s. assigns_by _ _ _ s refl refl;
  no_recipients_release_without_back = λ s. let bad = let_go_by _ _ _ s refl refl in absurd cc;
  no_lock_after_commit = λ s. locks_by _ _ _ s refl refl refl;
}

pub returns-clause-safe : goal.returns-clause-safe
returns-clause-safe c = record {
  not_begun = (law_sessions unbegun Reaches.Begins).1;
  not_free_on_both = λ s. s.never_free_on_both (inl refl, refl);
  not_burnt_without_mint = λ s. let bad = (s.burnt_behind_the_mint refl).0 in absurd cc;
  not_assigned_before_the_burn = λ s. let bad = s.assigned_behind_the_burn refl in absurd cc;
  not_released_without_back = λ s. let bad = s.released_by_a_back (inl refl) in absurd cc;
}

-- ---- tied tales

unlike : (x y : ℕ) → (x < y) ⊎ (y < x) → x ≡ y → ⊥
unlike x y (inl h) e = omega (arith, h, e)
unlike x y (inr h) e = omega (arith, h, e)

by_peer : ¬ Tied (take 4 eleven) (take 3 eleven)
by_peer (Same e) = unlike 4 3 (inr (lit< tt)) (ap length e)
by_peer (Origin_ahead kind by e) = absurd cc
by_peer (Recipient_ahead kind by e) = unlike 5 3 (inr (lit< tt)) (ap length e)

by_two : ¬ Tied (take 3 eleven) (take 1 eleven)
by_two (Same e) = unlike 3 1 (inr (lit< tt)) (ap length e)
by_two (Origin_ahead kind by e) = unlike 2 3 (inl (lit< tt)) (ap length e)
by_two (Recipient_ahead kind by e) = unlike 4 1 (inr (lit< tt)) (ap length e)

pub returns-clause-tied : goal.returns-clause-tied
returns-clause-tied c = record {
  same = Same refl;
  origin_ahead = Origin_ahead TransferCommence refl refl;
  recipient_ahead = Recipient_ahead CommenceAck refl refl;
  not_ahead_by_the_peers = by_peer;
  not_ahead_by_two = by_two;
}
