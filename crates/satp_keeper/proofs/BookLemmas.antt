-- A ledger's journal, read from its last record.
use Rattle.std.proofs.Common.{◌≡◌, ◌≢◌, ℕ, Bool, true, false, List, [], ◌∷◌, ◌++◌, refl, ap, subst, sym, ◌∙◌, ⊎_elim, append_assoc}
use Rattle.std.specs.Prelude.{map}
use Rattle.std.proofs.lemmas.List.{append-nil, map-append}
use Rattle.satp_base.specs.Acts.{founded}
use Rattle.satp_base.specs.Founding.{Founding}
use Rattle.satp_base.specs.Genesis.{IsGenesis}
use Rattle.satp_base.specs.LedgerRule.{LedgerRule}
use Rattle.satp_base.specs.Money.{Book}
use Rattle.satp_base.specs.declared.genesis.Asset.{Asset}
use Rattle.satp_base.specs.declared.genesis.Hold.{Hold}
use Rattle.satp_base.specs.declared.ledger.Answer.TheVariants.{Done}
use Rattle.satp_base.specs.declared.ledger.LedgerKind.{LedgerKind}
use Rattle.satp_base.specs.declared.ledger.LedgerOp.{LedgerOp}
use Rattle.satp_base.specs.declared.message.Terms.{Terms}
use Rattle.satp_base.specs.declared.session.SessionId.{SessionId}
use Rattle.satp_base.proofs.RuleLemmas.{rule-gives}
use Rattle.satp_records.specs.Formats.{IsFormed, payload_of}
use Rattle.satp_records.specs.declared.stored.Stored.{Stored}
use Rattle.satp_records.specs.declared.stored.Stored.TheVariants as stored
use Rattle.satp_keeper.specs.Books.{Operated, asset_record, hold_record, act_record, ledger_records, ledger_payloads, Runs}
use Rattle.satp_keeper.specs.Replaying.{ReplayState, RecordFollows, ReadsTo, begun_by}
use Rattle.satp_keeper.proofs.Lists.{by_last, same_last, Last}
use Rattle.satp_keeper.proofs.Prefixes.{asset_before, hold_before}

-- ---- records

asset_formed : (a : Asset) → IsFormed (asset_record a)
asset_formed a = (a.cap.low, a.cap.high)

-- ---- the list grows at its end

grown : (kind : LedgerKind) (xs : List Stored) (s : Stored) → map payload_of (xs ++ s ∷ []) ≡ map payload_of xs ++ payload_of s ∷ []
grown kind xs s = map-append payload_of xs (s ∷ [])

pub more_acts : (kind : LedgerKind) (g : Founding) (acts : List Operated) (a : Operated) → ledger_payloads kind g (acts ++ a ∷ []) ≡ ledger_payloads kind g acts ++ payload_of (act_record a) ∷ []
more_acts kind g acts a =
    let assets = map asset_record g.assets in
    let holds = map hold_record g.holds in
    let done = map act_record acts in
    let behind : holds ++ map act_record (acts ++ a ∷ []) ≡ (holds ++ done) ++ act_record a ∷ [] = ap (λ l. holds ++ l) (map-append act_record acts (a ∷ [])) ∙ sym (append_assoc holds done (act_record a ∷ [])) in
    let all : ledger_records kind g (acts ++ a ∷ []) ≡ ledger_records kind g acts ++ act_record a ∷ [] = ap (λ l. stored.Kind kind ∷ (assets ++ l)) behind ∙ ap (λ l. stored.Kind kind ∷ l) (sym (append_assoc assets (holds ++ done) (act_record a ∷ []))) in
    ap (map payload_of) all ∙ grown kind (ledger_records kind g acts) (act_record a)

pub more_holds : (kind : LedgerKind) (assets : List Asset) (hs : List Hold) (h : Hold)
    → ledger_payloads kind (record { assets = assets; holds = hs ++ h ∷ [] }) [] ≡ ledger_payloads kind (record { assets = assets; holds = hs }) [] ++ payload_of (hold_record h) ∷ []
more_holds kind assets hs h =
    let before = map asset_record assets in
    let holds = map hold_record hs in
    let behind : map hold_record (hs ++ h ∷ []) ++ [] ≡ (holds ++ []) ++ hold_record h ∷ [] = append-nil (map hold_record (hs ++ h ∷ [])) ∙ map-append hold_record hs (h ∷ []) ∙ ap (λ l. l ++ hold_record h ∷ []) (sym (append-nil holds)) in
    let all : ledger_records kind (record { assets = assets; holds = hs ++ h ∷ [] }) [] ≡ ledger_records kind (record { assets = assets; holds = hs }) [] ++ hold_record h ∷ [] = ap (λ l. stored.Kind kind ∷ (before ++ l)) behind ∙ ap (λ l. stored.Kind kind ∷ l) (sym (append_assoc before (holds ++ []) (hold_record h ∷ []))) in
    ap (map payload_of) all ∙ grown kind (ledger_records kind (record { assets = assets; holds = hs }) []) (hold_record h)

pub more_assets : (kind : LedgerKind) (xs : List Asset) (a : Asset)
    → ledger_payloads kind (record { assets = xs ++ a ∷ []; holds = [] }) [] ≡ ledger_payloads kind (record { assets = xs; holds = [] }) [] ++ payload_of (asset_record a) ∷ []
more_assets kind xs a =
    let all : ledger_records kind (record { assets = xs ++ a ∷ []; holds = [] }) [] ≡ ledger_records kind (record { assets = xs; holds = [] }) [] ++ asset_record a ∷ [] = ap (λ l. stored.Kind kind ∷ l) (append-nil (map asset_record (xs ++ a ∷ [])) ∙ map-append asset_record xs (a ∷ []) ∙ ap (λ l. l ++ asset_record a ∷ []) (sym (append-nil (map asset_record xs)))) in
    ap (map payload_of) all ∙ grown kind (ledger_records kind (record { assets = xs; holds = [] }) []) (asset_record a)

-- ---- operations

pub done_same : (b : Book) (op : LedgerOp) (s : SessionId) (t : Terms) (c d : Book) → LedgerRule b op s t Done c → LedgerRule b op s t Done d → c ≡ d
done_same b op s t c d h k = (rule-gives b op s t Done c h).1 ∙ sym (rule-gives b op s t Done d k).1

pub runs_more : (b c d : Book) (acts : List Operated) (a : Operated) → Runs b acts c → LedgerRule c a.op a.session a.terms Done d → Runs b (acts ++ a ∷ []) d
runs_more b c d [] a runs rule = (d, subst (λ x. LedgerRule x a.op a.session a.terms Done d) runs rule, refl)
runs_more b c d (x ∷ acts) a runs rule = (runs.0, runs.1, runs_more runs.0 c d acts a runs.2 rule)

runs_last : (b d : Book) (acts : List Operated) (a : Operated) → Runs b (acts ++ a ∷ []) d → (c : Book) × Runs b acts c × LedgerRule c a.op a.session a.terms Done d
runs_last b d [] a runs = (b, refl, subst (LedgerRule b a.op a.session a.terms Done) (sym runs.2) runs.1)
runs_last b d (x ∷ acts) a runs = let r = runs_last runs.0 d acts a runs.2 in (r.0, (runs.0, runs.1, r.1), r.2)

pub begun_last : (acts : List Operated) (a : Operated) → begun_by (acts ++ a ∷ []) ≡ true
begun_last [] a = refl
begun_last (x ∷ acts) a = refl

pub none_begun : (acts : List Operated) → begun_by acts ≡ false → acts ≡ []
none_begun [] e = refl
none_begun (x ∷ acts) e = absurd cc

-- ---- the last record follows those before it

-- what stood before the last record, and how that follows
pub record Before (kind : LedgerKind) (front : List (List ℕ)) (p : List ℕ) (g : ReplayState) : Type 0 where
  pub from : ReplayState
  pub last : Stored
  pub formed : IsFormed last
  pub is : p ≡ payload_of last
  pub reads : ReadsTo kind front from
  pub follows : RecordFollows from last g

module _ (kind : LedgerKind) (front : List (List ℕ)) (p : List ℕ) (some : front ≢ []) where
  -- the list is known by its front and its last payload
  ends : (list : List (List ℕ)) (q : List ℕ) → front ++ p ∷ [] ≡ list ++ q ∷ [] → (front ≡ list) × (p ≡ q)
  ends list q e = same_last front list p q e

  by_act : (genesis : Founding) (begun : Bool) (book : Book) (acts : List Operated) (a : Operated) → IsGenesis genesis → Runs (founded genesis) (acts ++ a ∷ []) book → begun ≡ begun_by (acts ++ a ∷ [])
      → front ++ p ∷ [] ≡ ledger_payloads kind genesis (acts ++ a ∷ []) → Before kind front p (record { genesis = genesis; begun = begun; book = book })
  by_act genesis begun book acts a valid runs b list =
      let r = runs_last (founded genesis) book acts a runs in
      let e = ends (ledger_payloads kind genesis acts) (payload_of (act_record a)) (list ∙ more_acts kind genesis acts a) in
      record {
        from = record { genesis = genesis; begun = begun_by acts; book = r.0 };
        last = act_record a;
        formed = tt;
        is = e.1;
        reads = record { acts = acts; ledger = record { valid = valid; runs = r.1; list = e.0 }; begun = refl };
        follows = (r.2, refl, b ∙ begun_last acts a);
      }

  by_hold : (assets : List Asset) (hs : List Hold) (h : Hold) (begun : Bool) (book : Book) → IsGenesis (record { assets = assets; holds = hs ++ h ∷ [] }) → book ≡ founded (record { assets = assets; holds = hs ++ h ∷ [] }) → begun ≡ false
      → front ++ p ∷ [] ≡ ledger_payloads kind (record { assets = assets; holds = hs ++ h ∷ [] }) [] → Before kind front p (record { genesis = record { assets = assets; holds = hs ++ h ∷ [] }; begun = begun; book = book })
  by_hold assets hs h begun book valid is b list =
      let g : Founding = record { assets = assets; holds = hs } in
      let r = hold_before assets hs h valid in
      let e = ends (ledger_payloads kind g []) (payload_of (hold_record h)) (list ∙ more_holds kind assets hs h) in
      record {
        from = record { genesis = g; begun = false; book = founded g };
        last = hold_record h;
        formed = tt;
        is = e.1;
        reads = record { acts = []; ledger = record { valid = r.0; runs = refl; list = e.0 }; begun = refl };
        follows = (refl, r.1, b, is);
      }

  by_asset : (xs : List Asset) (a : Asset) (begun : Bool) (book : Book) → IsGenesis (record { assets = xs ++ a ∷ []; holds = [] }) → book ≡ founded (record { assets = xs ++ a ∷ []; holds = [] }) → begun ≡ false
      → front ++ p ∷ [] ≡ ledger_payloads kind (record { assets = xs ++ a ∷ []; holds = [] }) [] → Before kind front p (record { genesis = record { assets = xs ++ a ∷ []; holds = [] }; begun = begun; book = book })
  by_asset xs a begun book valid is b list =
      let g : Founding = record { assets = xs; holds = [] } in
      let r = asset_before xs a valid in
      let e = ends (ledger_payloads kind g []) (payload_of (asset_record a)) (list ∙ more_assets kind xs a) in
      record {
        from = record { genesis = g; begun = false; book = founded g };
        last = asset_record a;
        formed = asset_formed a;
        is = e.1;
        reads = record { acts = []; ledger = record { valid = r.0; runs = refl; list = e.0 }; begun = refl };
        follows = (a.cap, refl, refl, refl, r.1, b, is);
      }

  -- only the kind stands there
  by_none : front ++ p ∷ [] ≡ ledger_payloads kind (record { assets = []; holds = [] }) [] → ⊥
  by_none list = some (ends [] (payload_of (stored.Kind kind)) list).0

  abbrev Ends : Bool → Book → List Asset → List Hold → Type 0
  Ends begun book xs hs =
      IsGenesis (record { assets = xs; holds = hs }) → book ≡ founded (record { assets = xs; holds = hs }) → front ++ p ∷ [] ≡ ledger_payloads kind (record { assets = xs; holds = hs }) []
      → Before kind front p (record { genesis = record { assets = xs; holds = hs }; begun = begun; book = book })

  -- the genesis alone
  by_genesis : (assets : List Asset) (holds : List Hold) (begun : Bool) (book : Book) → IsGenesis (record { assets = assets; holds = holds }) → book ≡ founded (record { assets = assets; holds = holds }) → begun ≡ false
      → front ++ p ∷ [] ≡ ledger_payloads kind (record { assets = assets; holds = holds }) [] → Before kind front p (record { genesis = record { assets = assets; holds = holds }; begun = begun; book = book })
  by_genesis assets holds begun book valid is b list = ⊎_elim without_holds with_holds (by_last holds)
    where
      with_holds : Last holds → Before kind front p (record { genesis = record { assets = assets; holds = holds }; begun = begun; book = book })
      with_holds (hs, h, e) = subst (Ends begun book assets) (sym e) (λ v i l. by_hold assets hs h begun book v i b l) valid is list

      without : assets ≡ [] → Ends begun book assets []
      without e v i l = absurd (by_none (subst (λ xs. front ++ p ∷ [] ≡ ledger_payloads kind (record { assets = xs; holds = [] }) []) e l))

      with_assets : Last assets → Ends begun book assets []
      with_assets (xs, a, e) = subst (λ x. Ends begun book x []) (sym e) (λ v i l. by_asset xs a begun book v i b l)

      without_holds : holds ≡ [] → Before kind front p (record { genesis = record { assets = assets; holds = holds }; begun = begun; book = book })
      without_holds e = subst (Ends begun book assets) (sym e) (⊎_elim without with_assets (by_last assets)) valid is list

  pub before : (g : ReplayState) → ReadsTo kind (front ++ p ∷ []) g → Before kind front p g
  before g reads = ⊎_elim none more (by_last reads.acts)
    where
      none : reads.acts ≡ [] → Before kind front p g
      none e =
          by_genesis g.genesis.assets g.genesis.holds g.begun g.book reads.ledger.valid (subst (λ acts. Runs (founded g.genesis) acts g.book) e reads.ledger.runs) (reads.begun ∙ ap begun_by e)
          (subst (λ acts. front ++ p ∷ [] ≡ ledger_payloads kind g.genesis acts) e reads.ledger.list)

      more : Last reads.acts → Before kind front p g
      more (acts, a, e) =
          by_act g.genesis g.begun g.book acts a reads.ledger.valid (subst (λ x. Runs (founded g.genesis) x g.book) e reads.ledger.runs) (reads.begun ∙ ap begun_by e)
          (subst (λ x. front ++ p ∷ [] ≡ ledger_payloads kind g.genesis x) e reads.ledger.list)
