-- The command `show`: a session is printed as the records and the ledger have it.
use Rattle.std.specs.Prelude.{◌≡◌, ℕ, List, [], Some, None, IfSome, option_map}
use Rattle.satp_base.specs.Calls.{MayMiss, asked, ask_failed}
use Rattle.satp_base.specs.LedgerRule.{entry_of}
use Rattle.satp_base.specs.Streams.{Rose}
use Rattle.satp_base.specs.declared.ledger.Entry.{Entry}
use Rattle.satp_base.specs.declared.ledger.LedgerCall.TheVariants.{Look}
use Rattle.satp_base.specs.declared.session.SessionId.{SessionId}
use Rattle.satp_base.specs.declared.view.View.{View}
use Rattle.satp_points.specs.States.{GatewayState}
use Rattle.satp_outcome.specs.Outside.{OutsideState, Printed, PrintedPart, SiteState}
use Rattle.satp_outcome.specs.declared.outcome.Outcome.{Outcome}
use Rattle.satp_outcome.specs.declared.outcome.Outcome.TheVariants.{Done, Memory, OutputFailed, Place}
use Rattle.satp_outcome.specs.declared.outcome.PlaceEnd.{PlaceEnd}
use Rattle.satp_outcome.specs.declared.outcome.PlaceEnd.TheVariants.{NoSession, Site}
use Rattle.satp_gateway_commands.specs.AtGateway.{IsView}
use Rattle.satp_gateway_commands.specs.ShowLines.{show_lines}

-- the session's entry was looked up, and no other call was made on the site
pub record Looks (session : SessionId) (entry : Entry) (b a : SiteState) : Type 0 where
  pub found : IfSome b.book (λ book. entry ≡ entry_of book.entries session)
  pub told : a.told ≡ option_map (asked (Look session) []) b.told
  pub book : a.book ≡ b.book
  pub faults : a.faults ≡ b.faults

-- the look failed, and no other call was made
pub record LooksInVain (session : SessionId) (b a : SiteState) : Type 0 where
  pub told : MayMiss (ask_failed (Look session) []) [] b.told a.told
  pub book : a.book ≡ b.book
  pub rose : Rose b.faults a.faults

-- a record names the session, and its entry was looked up
abbrev pub ShowsBy : SessionId → GatewayState → SiteState → SiteState → (List ℕ → Type 0) → Type 0
ShowsBy session g b a Prints = (view : View) × (entry : Entry) × IsView g session (Some view) × Looks session entry b a × Prints (show_lines session view entry)

-- the input and the wire are left alone
abbrev pub LeavesPeer : OutsideState → OutsideState → Type 0
LeavesPeer b a = (a.streams.input ≡ b.streams.input) × (a.wire ≡ b.wire)

-- the streams and the wire are
abbrev pub SaysNothing : OutsideState → OutsideState → Type 0
SaysNothing b a = (a.streams ≡ b.streams) × (a.wire ≡ b.wire)

abbrev pub ShowRefuses : SessionId → GatewayState → OutsideState → OutsideState → PlaceEnd → Type 0
ShowRefuses session g b a (NoSession named) = (named ≡ session) × IsView g session None × (a ≡ b)
ShowRefuses session g b a Site = ((view : View) × IsView g session (Some view)) × LooksInVain session b.site a.site × SaysNothing b a
ShowRefuses session g b a _ = ⊥

-- Want of memory comes after the look, while the lines are made; nothing of them is printed.
abbrev pub ShowWorks : SessionId → GatewayState → OutsideState → OutsideState → Outcome → Type 0
ShowWorks session g b a Done = ShowsBy session g b.site a.site (λ lines. Printed lines b.streams.out a.streams.out) × LeavesPeer b a
ShowWorks session g b a OutputFailed = ShowsBy session g b.site a.site (λ lines. PrintedPart lines b.streams.out a.streams.out) × LeavesPeer b a
ShowWorks session g b a Memory = ShowsBy session g b.site a.site (λ lines. Unit {0}) × SaysNothing b a
ShowWorks session g b a (Place end) = ShowRefuses session g b a end
ShowWorks session g b a _ = ⊥
