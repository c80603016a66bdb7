-- A ledger's journal is read in one way, and stops at the first record that may not stand there.
use Rattle.std.proofs.Common.{◌≡◌, ◌≢◌, ◌⊎◌, ℕ, zero, suc, ◌+◌, ◌<◌, ◌≤◌, true, false, List, [], ◌∷◌, ◌++◌, length, take, drop, refl, ap, ap₂, subst, sym, ◌∙◌, inl, inr, arith, append_assoc, length-append}
use Rattle.std.specs.Prelude.{map}
use Rattle.std.proofs.lemmas.List.{append-nil, take-append-drop, length-take}
use Rattle.satp_base.specs.Acts.{founded}
use Rattle.satp_base.specs.Founding.{Founding}
use Rattle.satp_base.specs.Genesis.{AddsAsset, AddsHold}
use Rattle.satp_base.specs.Keys.{same_amount}
use Rattle.satp_base.specs.LedgerRule.{LedgerRule}
use Rattle.satp_base.specs.Money.{Book}
use Rattle.satp_base.specs.declared.genesis.Asset.{Asset}
use Rattle.satp_base.specs.declared.genesis.Hold.{Hold}
use Rattle.satp_base.specs.declared.ledger.Answer.TheVariants.{Done}
use Rattle.satp_base.specs.declared.ledger.LedgerKind.{LedgerKind}
use Rattle.satp_base.proofs.GenesisLemmas.{with_asset, with_hold}
use Rattle.satp_records.specs.Formats.{IsFormed, payload_of}
use Rattle.satp_records.specs.declared.stored.Stored.{Stored}
use Rattle.satp_records.specs.declared.stored.Stored.TheVariants as stored
use Rattle.satp_records.proofs.Payloads.{one_record}
use Rattle.satp_keeper.specs.Books.{Operated, asset_record, hold_record, act_record, ledger_payloads, Runs, IsLedger, Leaves, IsJournal, OneBook, NoneRefused, GoesOn}
use Rattle.satp_keeper.specs.Replaying.{ReplayState, RecordFollows, ReadsTo, begun_by, start}
use Rattle.satp_keeper.proofs.Lists.{by_last, Last}
use Rattle.satp_keeper.proofs.BookLemmas.{Before, before, more_acts, more_holds, more_assets, none_begun, begun_last, done_same, runs_more}

-- ---- a record is followed by one standing

same_standing : (f g : ReplayState) → f.genesis ≡ g.genesis → f.begun ≡ g.begun → f.book ≡ g.book → f ≡ g
same_standing f g p q r = λ i. record { genesis = p i; begun = q i; book = r i }

follows_one : (f : ReplayState) (s : Stored) (g h : ReplayState) → RecordFollows f s g → RecordFollows f s h → g ≡ h
follows_one f (stored.Asset name units) g h a b =
    let cap = same_amount a.0 b.0 (a.1 ∙ sym b.1) in
    let genesis : g.genesis ≡ h.genesis = a.4.added ∙ ap (λ c. let x : Founding = record f.genesis { assets = f.genesis.assets ++ record { name = name; cap = c } ∷ [] } in x) cap ∙ sym b.4.added in
    same_standing g h genesis (a.5 ∙ sym b.5) (a.6 ∙ ap founded genesis ∙ sym b.6)
follows_one f (stored.Hold asset owner amount) g h a b =
    let genesis : g.genesis ≡ h.genesis = a.1.added ∙ sym b.1.added in
    same_standing g h genesis (a.2 ∙ sym b.2) (a.3 ∙ ap founded genesis ∙ sym b.3)
follows_one f (stored.Act op session terms) g h a b = same_standing g h (a.1 ∙ sym b.1) (a.2 ∙ sym b.2) (done_same f.book op session terms g.book h.book a.0 b.0)
follows_one f (stored.Kind kind) g h a b = absurd a
follows_one f (stored.Setup setup) g h a b = absurd a
follows_one f (stored.Session session rec text) g h a b = absurd a

-- ---- a journal is read in one way

tail_is : (a b : List ℕ) (x y : List (List ℕ)) → a ∷ x ≡ b ∷ y → (a ≡ b) × (x ≡ y)
tail_is a b x y e = (cc, cc)

no_records : {X : Type 0} (f : X → Stored) (xs : List X) (ys : List Stored) → [] ≡ map payload_of (map f xs ++ ys) → (xs ≡ []) × ([] ≡ map payload_of ys)
no_records f [] ys e = (refl, e)
no_records f (x ∷ xs) ys e = absurd (let h = e in cc)

no_records_left : {X : Type 0} (f : X → Stored) (xs : List X) → [] ≡ map payload_of (map f xs) → xs ≡ []
no_records_left f [] e = refl
no_records_left f (x ∷ xs) e = absurd (let h = e in cc)

module _ (kind : LedgerKind) where
  -- one payload is the kind's
  pub alone : (p : List ℕ) (f : ReplayState) → ReadsTo kind (p ∷ []) f → (p ≡ payload_of (stored.Kind kind)) × (f ≡ start)
  alone p f reads =
      let e = tail_is p (payload_of (stored.Kind kind)) [] (map payload_of (map asset_record f.genesis.assets ++ (map hold_record f.genesis.holds ++ map act_record reads.acts))) reads.ledger.list in
      let a = no_records asset_record f.genesis.assets (map hold_record f.genesis.holds ++ map act_record reads.acts) e.1 in
      let h = no_records hold_record f.genesis.holds (map act_record reads.acts) a.1 in
      let none = no_records_left act_record reads.acts h.1 in
      let genesis : f.genesis ≡ start.genesis = λ i. record { assets = a.0 i; holds = h.0 i } in (
        e.0,
        same_standing f start genesis (reads.begun ∙ ap begun_by none) (subst (λ acts. Runs (founded f.genesis) acts f.book) none reads.ledger.runs ∙ ap founded genesis),
      )

  one_before : (front : List (List ℕ)) (p : List ℕ) (f g : ReplayState) → ((a b : ReplayState) → ReadsTo kind front a → ReadsTo kind front b → a ≡ b) → Before kind front p f → Before kind front p g → f ≡ g
  one_before front p f g one x y =
      let last = one_record x.last y.last x.formed y.formed (sym x.is ∙ y.is) in
      let from = one x.from y.from x.reads y.reads in
      follows_one x.from x.last f g x.follows (subst (λ s. RecordFollows x.from s g) (sym last) (subst (λ a. RecordFollows a y.last g) (sym from) y.follows))

  one_within : (n : ℕ) (payloads : List (List ℕ)) → length payloads ≤ n → (f g : ReplayState) → ReadsTo kind payloads f → ReadsTo kind payloads g → f ≡ g
  one_within n [] short f g a b = absurd (let e = a.ledger.list in cc)
  one_within zero (p ∷ payloads) short f g a b = absurd (omega (arith, short))
  one_within (suc n) (p ∷ []) short f g a b = (alone p f a).1 ∙ sym (alone p g b).1
  one_within (suc n) (p ∷ q ∷ payloads) short f g a b = at (λ front small. one_within n (p ∷ front) small) (by_last (q ∷ payloads))
    where
      none : {A : Type 0} → q ∷ payloads ≡ [] → A
      none e = absurd cc

      no_front : (front : List (List ℕ)) → p ∷ front ≢ []
      no_front front e = cc

      at : ((front : List (List ℕ)) → length (p ∷ front) ≤ n → (x y : ReplayState) → ReadsTo kind (p ∷ front) x → ReadsTo kind (p ∷ front) y → x ≡ y) → ((q ∷ payloads) ≡ []) ⊎ Last (q ∷ payloads) → f ≡ g
      at again (inl e) = none e
      at again (inr (front, last, e)) =
          let whole : p ∷ q ∷ payloads ≡ (p ∷ front) ++ last ∷ [] = ap (λ l. p ∷ l) e in
          let long = ap length e ∙ length-append front (last ∷ []) in
          one_before (p ∷ front) last f g (again front (omega (arith, short, long)))
          (before kind (p ∷ front) last (no_front front) f (subst (λ l. ReadsTo kind l f) whole a))
          (before kind (p ∷ front) last (no_front front) g (subst (λ l. ReadsTo kind l g) whole b))

  pub one_reading : (payloads : List (List ℕ)) (f g : ReplayState) → ReadsTo kind payloads f → ReadsTo kind payloads g → f ≡ g
  one_reading payloads f g a b = one_within (length payloads) payloads (omega arith) f g a b

  pub reads_of : (payloads : List (List ℕ)) (genesis : Founding) (acts : List Operated) (book : Book) → IsLedger kind payloads genesis acts book → ReadsTo kind payloads (record { genesis = genesis; begun = begun_by acts; book = book })
  reads_of payloads genesis acts book is = record { acts = acts; ledger = is; begun = refl }

  pub one_book : (payloads : List (List ℕ)) (a b : Book) → Leaves kind payloads a → Leaves kind payloads b → a ≡ b
  one_book payloads a b (g, acts, is) (h, more, has) = ap (λ (f : ReplayState). f.book) (one_reading payloads _ _ (reads_of payloads g acts a is) (reads_of payloads h more b has))

  -- ---- a record more

  by_asset : (payloads : List (List ℕ)) (xs : List Asset) (hs : List Hold) (a : Asset) (acts : List Operated) (book : Book) → hs ≡ [] → acts ≡ [] → IsLedger kind payloads (record { assets = xs; holds = hs }) acts book
      → AddsAsset (record { assets = xs; holds = hs }) a (record { assets = xs ++ a ∷ []; holds = hs })
      → IsLedger kind (payloads ++ payload_of (asset_record a) ∷ []) (record { assets = xs ++ a ∷ []; holds = hs }) [] (founded (record { assets = xs ++ a ∷ []; holds = hs }))
  by_asset payloads xs hs a acts book none still is adds =
      let list : payloads ≡ ledger_payloads kind (record { assets = xs; holds = [] }) [] = is.list ∙ ap₂ (λ (x : List Hold) (y : List Operated). ledger_payloads kind (record { assets = xs; holds = x }) y) none still in
      record {
        valid = with_asset xs (xs ++ a ∷ []) hs a true is.valid adds.few adds.unknown refl;
        runs = refl;
        list = ap (λ l. l ++ payload_of (asset_record a) ∷ []) list ∙ sym (more_assets kind xs a) ∙ ap (λ (x : List Hold). ledger_payloads kind (record { assets = xs ++ a ∷ []; holds = x }) []) (sym none);
      }

  by_hold : (payloads : List (List ℕ)) (xs : List Asset) (hs : List Hold) (h : Hold) (acts : List Operated) (book : Book) → acts ≡ [] → IsLedger kind payloads (record { assets = xs; holds = hs }) acts book
      → AddsHold (record { assets = xs; holds = hs }) h (record { assets = xs; holds = hs ++ h ∷ [] })
      → IsLedger kind (payloads ++ payload_of (hold_record h) ∷ []) (record { assets = xs; holds = hs ++ h ∷ [] }) [] (founded (record { assets = xs; holds = hs ++ h ∷ [] }))
  by_hold payloads xs hs h acts book still is adds = record {
    valid = with_hold xs hs (hs ++ h ∷ []) h true adds.cap is.valid adds.few adds.known adds.fits refl;
    runs = refl;
    list = ap (λ l. l ++ payload_of (hold_record h) ∷ []) (is.list ∙ ap (ledger_payloads kind (record { assets = xs; holds = hs })) still) ∙ sym (more_holds kind xs hs h);
  }

  pub by_act : (payloads : List (List ℕ)) (genesis : Founding) (acts : List Operated) (a : Operated) (b new : Book) → IsLedger kind payloads genesis acts b → LedgerRule b a.op a.session a.terms Done new
      → IsLedger kind (payloads ++ payload_of (act_record a) ∷ []) genesis (acts ++ a ∷ []) new
  by_act payloads genesis acts a b new is rule = record {
    valid = is.valid;
    runs = runs_more (founded genesis) b new acts a is.runs rule;
    list = ap (λ l. l ++ payload_of (act_record a) ∷ []) is.list ∙ sym (more_acts kind genesis acts a);
  }

  founding_reads : (payloads : List (List ℕ)) (g : ReplayState) (genesis : Founding) → IsLedger kind payloads genesis [] (founded genesis) → g.genesis ≡ genesis → g.begun ≡ false → g.book ≡ founded g.genesis → ReadsTo kind payloads g
  founding_reads payloads g genesis is e b c = record {
    acts = [];
    ledger = subst (λ (x : Book). IsLedger kind payloads g.genesis [] x) (sym c) (subst (λ (x : Founding). IsLedger kind payloads x [] (founded x)) (sym e) is);
    begun = b;
  }

  pub read_on : (payloads : List (List ℕ)) (f : ReplayState) (s : Stored) (g : ReplayState) → ReadsTo kind payloads f → RecordFollows f s g → ReadsTo kind (payloads ++ payload_of s ∷ []) g
  read_on payloads f (stored.Asset name units) g reads (cap, is, b, h, adds, begun, book) =
      let a : Asset = record { name = name; cap = cap } in
      let adds' : AddsAsset f.genesis a (record { assets = f.genesis.assets ++ a ∷ []; holds = f.genesis.holds }) = subst (AddsAsset f.genesis a) adds.added adds in
      founding_reads (payloads ++ payload_of (stored.Asset name units) ∷ []) g _
      (subst (λ n. IsLedger kind (payloads ++ payload_of (stored.Asset name n) ∷ []) (record { assets = f.genesis.assets ++ a ∷ []; holds = f.genesis.holds }) [] (founded (record { assets = f.genesis.assets ++ a ∷ []; holds = f.genesis.holds }))) is
      (by_asset payloads f.genesis.assets f.genesis.holds a reads.acts f.book h (none_begun reads.acts (sym reads.begun ∙ b)) reads.ledger adds')) adds.added begun book
  read_on payloads f (stored.Hold asset owner amount) g reads (b, adds, begun, book) =
      let h : Hold = record { asset = asset; owner = owner; amount = amount } in
      founding_reads (payloads ++ payload_of (stored.Hold asset owner amount) ∷ []) g _
      (by_hold payloads f.genesis.assets f.genesis.holds h reads.acts f.book (none_begun reads.acts (sym reads.begun ∙ b)) reads.ledger (subst (AddsHold f.genesis h) adds.added adds)) adds.added begun book
  read_on payloads f (stored.Act op session terms) g reads (rule, same, begun) =
      let a : Operated = record { op = op; session = session; terms = terms } in
      record {
        acts = reads.acts ++ a ∷ [];
        ledger = subst (λ (x : Founding). IsLedger kind (payloads ++ payload_of (act_record a) ∷ []) x (reads.acts ++ a ∷ []) g.book) (sym same) (by_act payloads f.genesis reads.acts a f.book g.book reads.ledger rule);
        begun = begun ∙ sym (begun_last reads.acts a);
      }
  read_on payloads f (stored.Kind k) g reads follows = absurd follows
  read_on payloads f (stored.Setup setup) g reads follows = absurd follows
  read_on payloads f (stored.Session session rec text) g reads follows = absurd follows

  -- ---- a record that may not stand there

  pub not_following : (front : List (List ℕ)) (f : ReplayState) (s : Stored) → front ≢ [] → ReadsTo kind front f → IsFormed s → ((g : ReplayState) → RecordFollows f s g → ⊥) → IsJournal kind (front ++ payload_of s ∷ []) → ⊥
  not_following front f s some reads formed never (book, (genesis, acts, is)) =
      let x = before kind front (payload_of s) some _ (reads_of (front ++ payload_of s ∷ []) genesis acts book is) in
      let from = one_reading front x.from f x.reads reads in
      let last = one_record x.last s x.formed formed (sym x.is) in
      never _ (subst (λ a. RecordFollows f a (record { genesis = genesis; begun = begun_by acts; book = book })) last (subst (λ a. RecordFollows a x.last (record { genesis = genesis; begun = begun_by acts; book = book })) from x.follows))

  pub not_decoded : (front : List (List ℕ)) (p : List ℕ) → ((s : Stored) → IsFormed s → p ≢ payload_of s) → IsJournal kind (front ++ p ∷ []) → ⊥
  not_decoded [] p never (book, (genesis, acts, is)) = never (stored.Kind kind) tt (alone p _ (reads_of (p ∷ []) genesis acts book is)).0
  not_decoded (q ∷ front) p never (book, (genesis, acts, is)) =
      let x = before kind (q ∷ front) p no_front _ (reads_of (q ∷ front ++ p ∷ []) genesis acts book is) in
      never x.last x.formed x.is
    where
      no_front : q ∷ front ≢ []
      no_front e = cc

  pub front_is : (n : ℕ) (front rest : List (List ℕ)) → length rest ≤ n → front ≢ [] → IsJournal kind (front ++ rest) → IsJournal kind front
  front_is n front [] short some is = subst (IsJournal kind) (append-nil front) is
  front_is zero front (r ∷ rest) short some is = absurd (omega (arith, short))
  front_is (suc n) front (r ∷ rest) short some is = at (λ rs small. front_is n front rs small some) (by_last (r ∷ rest))
    where
      none : {A : Type 0} → r ∷ rest ≡ [] → A
      none e = absurd cc

      longer : (rs : List (List ℕ)) → front ++ rs ≡ [] → ⊥
      longer rs e = let both = sym (length-append front rs) ∙ ap length e in empty front some both
        where
          empty : (l : List (List ℕ)) → l ≢ [] → length l + length rs ≡ 0 → ⊥
          empty [] not both = not refl
          empty (x ∷ l) not both = omega (arith, both)

      at : ((rs : List (List ℕ)) → length rs ≤ n → IsJournal kind (front ++ rs) → IsJournal kind front) → ((r ∷ rest) ≡ []) ⊎ Last (r ∷ rest) → IsJournal kind front
      at again (inl e) = none e
      at again (inr (rs, q, e)) =
          let whole : front ++ (r ∷ rest) ≡ (front ++ rs) ++ q ∷ [] = ap (λ l. front ++ l) e ∙ sym (append_assoc front rs (q ∷ [])) in
          let long = ap length e ∙ length-append rs (q ∷ []) in
          let x = before kind (front ++ rs) q (longer rs) _ (reads_of ((front ++ rs) ++ q ∷ []) is.1.0 is.1.1 is.0 (subst (λ l. IsLedger kind l is.1.0 is.1.1 is.0) whole is.1.2)) in
          again rs (omega (arith, short, long)) (x.from.book, (x.from.genesis, x.reads.acts, x.reads.ledger))

-- ---- what follows

pub books_one : OneBook
books_one kind payloads a b x y = one_book kind payloads a b x y

pub none_refused : NoneRefused
none_refused kind payloads is = (some, λ index refused. refused.refused (fine index refused.within))
  where
    some : payloads ≡ [] → ⊥
    some e = let list = sym e ∙ is.1.2.list in cc

    fine : (index : ℕ) → index < length payloads → IsJournal kind (take (index + 1) payloads)
    fine index within = front_is kind (length (drop (index + 1) payloads)) (take (index + 1) payloads) (drop (index + 1) payloads) (omega arith) (λ e. let n = sym (length-take (index + 1) payloads) ∙ ap length e in omega (arith, n, within)) (subst (IsJournal kind) (sym (take-append-drop (index + 1) payloads)) is)

pub goes_on : GoesOn
goes_on kind payloads b new op session terms (genesis, acts, is) rule = (genesis, acts ++ record { op = op; session = session; terms = terms } ∷ [], by_act kind payloads genesis acts (record { op = op; session = session; terms = terms }) b new is rule)
