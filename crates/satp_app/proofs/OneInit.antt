-- A set-up ends in one way.
use Rattle.std.proofs.Common.{◌≡◌, ◌⊎◌, ◌<◌, ◌∙◌, ℕ, true, false, List, [], length, Option, Some, None, Result, refl, sym, ap, subst, inl, inr, arith, option_map}
use Rattle.std.specs.Prelude.{◌≢◌, IfSome}
use Rattle.satp_base.specs.Calls.{entered}
use Rattle.satp_base.specs.Format.{Damage, Stands}
use Rattle.satp_base.specs.Founding.{Founding}
use Rattle.satp_base.specs.GenesisText.{AcceptsLine, most_bytes, nothing}
use Rattle.satp_base.specs.Lines.{Fails}
use Rattle.satp_base.specs.Streams.{Rose}
use Rattle.satp_base.specs.Trail.{seen}
use Rattle.satp_base.specs.declared.area.Area.TheVariants.{JournalA}
use Rattle.satp_base.specs.declared.lines.LinesFault.TheVariants.{Line}
use Rattle.satp_base.proofs.OneGenesis.{one_accepted}
use Rattle.satp_base.proofs.OneReading.{not_refused}
use Rattle.satp_base.proofs.Readings.{never_both, one_damage, one_list}
use Rattle.satp_gateway.specs.SettingUp.{FailsToOpen, NotVacant, Opens}
use Rattle.satp_gateway.specs.declared.fault.SetUpFault.{SetUpFault}
use Rattle.satp_gateway.specs.declared.fault.SetUpFault.TheVariants.{Already, Damaged, Memory as NoMemory, Site as SiteFailed}
use Rattle.satp_gateway.proofs.Deciding.{opens_stands}
use Rattle.satp_gateway_commands.specs.AtGateway.{Enters, tells_of}
use Rattle.satp_journal.specs.declared.fault.JournalFault.TheVariants as journal
use Rattle.satp_outcome.specs.Outside.{OutsideState}
use Rattle.satp_outcome.specs.declared.outcome.InputEnd.TheVariants.{Long, Text, Signature, Kind, Receiver, GenesisLine, ScheduleLine, LogDamaged, LogRecord, LogEmpty}
use Rattle.satp_outcome.specs.declared.outcome.Outcome.{Outcome}
use Rattle.satp_outcome.specs.declared.outcome.Outcome.TheVariants.{Done, RolledBack, WordsRefused, Memory, InputFailed, OutputFailed, Input, Place, Peer}
use Rattle.satp_outcome.specs.declared.outcome.PlaceEnd.TheVariants.{Site, JournalDamaged, JournalRecord, GatewayThere, NoGateway, NoSession, Exists, Full, TooLate}
use Rattle.satp_points.specs.States.{Tells}
use Rattle.satp_app.specs.Init.{InitEnds, InitRule, IsGenesisText, IsReady, IsSetUp, NotRead, NotReady, NotSetUp, Order, SetsUp, set_up_outcome}
use Rattle.satp_app.specs.Init.InitEnds.{is_set_up, not_read, not_ready, not_set_up}
use Rattle.satp_app.specs.OneEnd.{OneInit, TellsAll}
use Rattle.satp_app.proofs.OneLine.{one_line}

-- ---- what the journal's bytes say

-- the end that the journal gives, or none where it has no record
abbrev JournalSays : List ℕ → Option Outcome → Type 0
JournalSays image None = Stands image []
JournalSays image (Some p) =
    ((p ≡ Place GatewayThere) × ((payloads : List (List ℕ)) × (payloads ≢ []) × Stands image payloads))
    ⊎ ((at : ℕ) × (p ≡ Place (JournalDamaged at)) × Damage image at)

one_journal : (image : List ℕ) (p q : Outcome) → JournalSays image (Some p) → JournalSays image (Some q) → p ≡ q
one_journal image p q (inl (e, x)) (inl (f, y)) = e ∙ sym f
one_journal image p q (inl (e, (payloads, some, stands))) (inr (at, f, damage)) = absurd (never_both image payloads at stands damage)
one_journal image p q (inr (at, e, damage)) (inl (f, (payloads, some, stands))) = absurd (never_both image payloads at stands damage)
one_journal image p q (inr (m, e, c)) (inr (n, f, d)) = e ∙ ap (λ at. Place (JournalDamaged at)) (one_damage image m n c d) ∙ sym f

not_vacant : {P : Type 0} (image : List ℕ) (p : Outcome) → JournalSays image (Some p) → JournalSays image None → P
not_vacant image p (inl (e, (payloads, some, stands))) none = absurd (some (one_list image payloads [] stands none))
not_vacant image p (inr (at, e, damage)) none = absurd (never_both image [] at none damage)

-- ---- what the input says

module _ (o : Order) (b a : OutsideState) (tells : TellsAll b) where
  abbrev bytes : List ℕ
  bytes = tells.input.bytes

  abbrev Same : Type 0
  Same = a.streams.input.faults ≡ b.streams.input.faults

  -- the end that the input gives, or none where it is a genesis
  abbrev InputSays : Option Outcome → Type 0
  InputSays None = Same × ((genesis : Founding) × IsGenesisText genesis bytes)
  InputSays (Some p) =
      ((p ≡ InputFailed) × Rose b.streams.input.faults a.streams.input.faults)
      ⊎ (Same × (p ≡ Input Long) × (most_bytes < length bytes))
      ⊎ (Same × ((number : ℕ) × (p ≡ Input (GenesisLine number)) × Fails AcceptsLine most_bytes bytes nothing (Line number)))

  not_both : {P : Type 0} → Rose b.streams.input.faults a.streams.input.faults → Same → P
  not_both rose same = let below = tells.input.below in absurd (omega (arith, rose, same, below))

  one_input : (p q : Outcome) → InputSays (Some p) → InputSays (Some q) → p ≡ q
  one_input p q (inl (e, rose)) (inl (f, again)) = e ∙ sym f
  one_input p q (inl (e, rose)) (inr (inl (same, f, long))) = not_both rose same
  one_input p q (inl (e, rose)) (inr (inr (same, n))) = not_both rose same
  one_input p q (inr (inl (same, e, long))) (inl (f, rose)) = not_both rose same
  one_input p q (inr (inl (same, e, long))) (inr (inl (also, f, more))) = e ∙ sym f
  one_input p q (inr (inl (same, e, long))) (inr (inr (also, (n, f, (short, stops))))) = absurd (omega (arith, long, short))
  one_input p q (inr (inr (same, m))) (inl (f, rose)) = not_both rose same
  one_input p q (inr (inr (same, (m, e, (short, stops))))) (inr (inl (also, f, long))) = absurd (omega (arith, long, short))
  one_input p q (inr (inr (same, (m, e, (short, stops))))) (inr (inr (also, (n, f, (few, too))))) = e ∙ ap (λ number. Input (GenesisLine number)) (one_line bytes m n stops too) ∙ sym f

  not_genesis : {P : Type 0} (p : Outcome) → InputSays (Some p) → InputSays None → P
  not_genesis p (inl (e, rose)) (same, g) = not_both rose same
  not_genesis p (inr (inl (same, e, long))) (also, (genesis, text)) = absurd (omega (arith, long, text.short))
  not_genesis p (inr (inr (same, (n, e, fails)))) (also, (genesis, text)) = let bad = not_refused AcceptsLine one_accepted most_bytes bytes nothing genesis (Line n) text fails in absurd cc

  -- ---- all ends

  abbrev image : List ℕ
  image = seen (entered o.dir tells.calls).trail JournalA

  -- what the output says, behind a set-up
  abbrev OutSays : Outcome → Type 0
  OutSays p = ((p ≡ Done) × (a.streams.out.failed ≡ false)) ⊎ ((p ≡ OutputFailed) × (a.streams.out.failed ≡ true))

  one_out : (p q : Outcome) → OutSays p → OutSays q → p ≡ q
  one_out p q (inl (e, whole)) (inl (f, well)) = e ∙ sym f
  one_out p q (inl (e, whole)) (inr (f, failed)) = let bad : true ≡ false = sym failed ∙ whole in absurd cc
  one_out p q (inr (e, failed)) (inl (f, whole)) = let bad : true ≡ false = sym failed ∙ whole in absurd cc
  one_out p q (inr (e, failed)) (inr (f, too)) = e ∙ sym f

  abbrev Says : Outcome → Type 0
  Says p = JournalSays image (Some p) ⊎ (JournalSays image None × (InputSays (Some p) ⊎ (InputSays None × OutSays p)))

  one_says : (p q : Outcome) → Says p → Says q → p ≡ q
  one_says p q (inl x) (inl y) = one_journal image p q x y
  one_says p q (inl x) (inr (none, y)) = not_vacant image p x none
  one_says p q (inr (none, x)) (inl y) = not_vacant image q y none
  one_says p q (inr (none, inl x)) (inr (also, inl y)) = one_input p q x y
  one_says p q (inr (none, inl x)) (inr (also, inr (genesis, y))) = not_genesis p x genesis
  one_says p q (inr (none, inr (genesis, x))) (inr (also, inl y)) = not_genesis q y genesis
  one_says p q (inr (none, inr (genesis, x))) (inr (also, inr (too, y))) = one_out p q x y

  -- ---- from the rule

  in_told : (m : Tells) → Enters o.dir (tells_of b.site) m → m.told ≡ Some (entered o.dir tells.calls)
  in_told m enters = enters.told ∙ ap (option_map (entered o.dir)) tells.told

  stands : (payloads : List (List ℕ)) (m n : Tells) → Enters o.dir (tells_of b.site) m → Opens payloads m.told n.told → Stands image payloads
  stands payloads m n enters opens = opens_stands payloads (entered o.dir tells.calls) n.told (subst (λ t. Opens payloads t n.told) (in_told m enters) opens)

  is_damage : (at : ℕ) (m n : Tells) → Enters o.dir (tells_of b.site) m → FailsToOpen (journal.Damaged at) m.told n.told → Damage image at
  is_damage at m n enters fails = by (subst (λ t. FailsToOpen (journal.Damaged at) t n.told) (in_told m enters) fails)
    where
      by : FailsToOpen (journal.Damaged at) (Some (entered o.dir tells.calls)) n.told → Damage image at
      by (found, read, damage, made) = subst (λ x. Damage x at) read damage

  ready_says : (n : Tells) → IsReady o.dir (tells_of b.site) n → JournalSays image None
  ready_says n (m, enters, (opens, same)) = stands [] m n enters opens

  journal_says : (p : Outcome) (fault : SetUpFault) (m n : Tells) → p ≢ Place Site → p ≢ Memory → Enters o.dir (tells_of b.site) m → NotVacant fault m n → p ≡ set_up_outcome fault → JournalSays image (Some p)
  journal_says p Already m n other memory enters ((payloads, some, opens), same) e = inl (e, (payloads, some, stands payloads m n enters opens))
  journal_says p (Damaged at) m n other memory enters (fails, same) e = inr (at, e, is_damage at m n enters fails)
  journal_says p SiteFailed m n other memory enters not e = absurd (other e)
  journal_says p NoMemory m n other memory enters not e = absurd (memory e)

  is_bytes : (x : List ℕ) → IfSome b.streams.input.left (λ t. x ≡ t) → x ≡ bytes
  is_bytes x input = subst (λ l. IfSome l (λ t. x ≡ t)) tells.input.told input

  read_says : (p : Outcome) → p ≢ Memory → NotRead b.streams.input a.streams.input p → InputSays (Some p)
  read_says (Input Long) memory r = inr (inl (r.read.0, refl, subst (λ (x : List ℕ). most_bytes < length x) (is_bytes r.bytes r.is_input) r.holds))
  read_says (Input (GenesisLine number)) memory r = inr (inr (r.read.0, (number, refl, subst (λ x. Fails AcceptsLine most_bytes x nothing (Line number)) (is_bytes r.bytes r.is_input) r.holds)))
  read_says InputFailed memory r = inl (refl, r.0)
  read_says Memory memory r = absurd (memory refl)
  read_says Done memory r = absurd r
  read_says RolledBack memory r = absurd r
  read_says WordsRefused memory r = absurd r
  read_says OutputFailed memory r = absurd r
  read_says (Place end) memory r = absurd r
  read_says (Peer end) memory r = absurd r
  read_says (Input (Text fault)) memory r = absurd r
  read_says (Input (Signature fault)) memory r = absurd r
  read_says (Input Kind) memory r = absurd r
  read_says (Input Receiver) memory r = absurd r
  read_says (Input (ScheduleLine number)) memory r = absurd r
  read_says (Input (LogDamaged at)) memory r = absurd r
  read_says (Input (LogRecord index)) memory r = absurd r
  read_says (Input LogEmpty) memory r = absurd r

  genesis_says : {result : Result (Unit {0}) SetUpFault} → SetsUp o b a result → (JournalSays image None) × (InputSays None)
  genesis_says s = (ready_says s.ready s.is_ready, (s.read.read.0, (s.genesis, subst (IsGenesisText s.genesis) (is_bytes s.read.bytes s.read.is_input) s.read.holds)))

  set_up_says : (p : Outcome) → IsSetUp o b a p → Says p
  set_up_says Done (s, printed) = let g = genesis_says s in inr (g.0, inr (g.1, inl (refl, printed.1)))
  set_up_says OutputFailed (s, printed) = let g = genesis_says s in inr (g.0, inr (g.1, inr (refl, printed.1)))
  set_up_says RolledBack bad = absurd bad
  set_up_says WordsRefused bad = absurd bad
  set_up_says Memory bad = absurd bad
  set_up_says InputFailed bad = absurd bad
  set_up_says (Input end) bad = absurd bad
  set_up_says (Place end) bad = absurd bad
  set_up_says (Peer end) bad = absurd bad

  -- a set-up that fails does so by a fault of the site or without memory
  no_set_up : (p : Outcome) → p ≢ Place Site → p ≢ Memory → NotSetUp o b a p → Says p
  no_set_up (Place Site) other memory not = absurd (other refl)
  no_set_up Memory other memory not = absurd (memory refl)
  no_set_up Done other memory bad = absurd bad
  no_set_up OutputFailed other memory bad = absurd bad
  no_set_up RolledBack other memory bad = absurd bad
  no_set_up WordsRefused other memory bad = absurd bad
  no_set_up InputFailed other memory bad = absurd bad
  no_set_up (Input end) other memory bad = absurd bad
  no_set_up (Peer end) other memory bad = absurd bad
  no_set_up (Place (JournalDamaged at)) other memory bad = absurd bad
  no_set_up (Place (JournalRecord index)) other memory bad = absurd bad
  no_set_up (Place GatewayThere) other memory bad = absurd bad
  no_set_up (Place NoGateway) other memory bad = absurd bad
  no_set_up (Place (NoSession session)) other memory bad = absurd bad
  no_set_up (Place (Exists session)) other memory bad = absurd bad
  no_set_up (Place (Full count)) other memory bad = absurd bad
  no_set_up (Place (TooLate place)) other memory bad = absurd bad

  not_ready_says : (p : Outcome) → p ≢ Place Site → p ≢ Memory → NotReady o.dir (tells_of b.site) (tells_of a.site) p → Says p
  not_ready_says p other memory (inl (fails, e)) = absurd (other e)
  not_ready_says p other memory (inr (m, fault, enters, not, e)) = inl (journal_says p fault m (tells_of a.site) other memory enters not e)

  says : (p : Outcome) → p ≢ Place Site → p ≢ Memory → InitEnds o b a p → Says p
  says p other memory (not_ready same not) = not_ready_says p other memory not
  says p other memory (not_read ready unread out) = inr (ready_says (tells_of a.site) ready, inl (read_says p memory unread))
  says p other memory (not_set_up not out) = no_set_up p other memory not
  says p other memory (is_set_up done) = set_up_says p done

  -- a fault of the site, or none and another end
  abbrev Way : Outcome → Type 0
  Way p = ((p ≡ Place Site) × Rose b.site.faults a.site.faults) ⊎ ((a.site.faults ≡ b.site.faults) × Says p)

  one_way : (p q : Outcome) → Way p → Way q → p ≡ q
  one_way p q (inl (e, rose)) (inl (f, again)) = e ∙ sym f
  one_way p q (inl (e, rose)) (inr (same, y)) = let below = tells.below in absurd (omega (arith, rose, same, below))
  one_way p q (inr (same, x)) (inl (f, rose)) = let below = tells.below in absurd (omega (arith, rose, same, below))
  one_way p q (inr (same, x)) (inr (also, y)) = one_says p q x y

  is_site : (p : Outcome) → (p ≡ Place Site) ⊎ (p ≢ Place Site)
  is_site (Place Site) = inl refl
  is_site Done = inr (λ e. cc e)
  is_site OutputFailed = inr (λ e. cc e)
  is_site RolledBack = inr (λ e. cc e)
  is_site WordsRefused = inr (λ e. cc e)
  is_site Memory = inr (λ e. cc e)
  is_site InputFailed = inr (λ e. cc e)
  is_site (Input end) = inr (λ e. cc e)
  is_site (Peer end) = inr (λ e. cc e)
  is_site (Place (JournalDamaged at)) = inr (λ e. cc e)
  is_site (Place (JournalRecord index)) = inr (λ e. cc e)
  is_site (Place GatewayThere) = inr (λ e. cc e)
  is_site (Place NoGateway) = inr (λ e. cc e)
  is_site (Place (NoSession session)) = inr (λ e. cc e)
  is_site (Place (Exists session)) = inr (λ e. cc e)
  is_site (Place (Full count)) = inr (λ e. cc e)
  is_site (Place (TooLate place)) = inr (λ e. cc e)

  way : (p : Outcome) → p ≢ Memory → InitRule o b a p → Way p
  way p memory r = by (is_site p)
    where
      by : (p ≡ Place Site) ⊎ (p ≢ Place Site) → Way p
      by (inl e) = inl (e, r.cause e)
      by (inr other) = inr (r.kept other, says p other memory r.ends)

pub one_init : OneInit
one_init o b a tells p q first second x y = one_way o b a tells p q (way o b a tells p first x) (way o b a tells q second y)
