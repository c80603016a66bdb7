-- The state of a session with one record more.
use Rattle.std.proofs.Common.{◌≡◌, ◌<◌, ℕ, List, [], ◌∷◌, ◌++◌, map, Option, Some, None, IsTrue, refl, sym, ap, ap₂, subst, ◌∙◌, arith}
use Rattle.std.proofs.lemmas.List.{map-append}
use Rattle.std.specs.Prelude.{Bool, option_map, true, false, Ok, Err}
use Rattle.satp_base.specs.Canonical.{kind_of}
use Rattle.satp_base.specs.Chains.{next_text, texts_from}
use Rattle.satp_base.specs.Roles.{IsReached, RoleRule}
use Rattle.satp_base.specs.Signatures.{own}
use Rattle.satp_base.specs.Tales.{IsTale}
use Rattle.satp_base.specs.Tales.IsTale.{Onward}
use Rattle.satp_base.specs.Views.{KeepsTale, begin, push}
use Rattle.satp_base.specs.declared.message.Kind.{Kind}
use Rattle.satp_base.specs.declared.message.Kind.TheVariants.{TransferProposal}
use Rattle.satp_base.specs.declared.message.Part.{Part}
use Rattle.satp_base.specs.declared.message.Part.TheVariants as part
use Rattle.satp_base.specs.declared.message.Role.{Role}
use Rattle.satp_base.specs.declared.message.Terms.{Terms}
use Rattle.satp_base.specs.declared.name.Name.{Name}
use Rattle.satp_base.specs.declared.record.Rec.{Rec}
use Rattle.satp_base.specs.declared.record.Rec.TheVariants.{Began, Took, Made, Did, Chose, Rescue}
use Rattle.satp_base.specs.declared.session.SessionId.{SessionId}
use Rattle.satp_base.specs.declared.view.View.{View}
use Rattle.satp_chain.specs.Chained.{Chained, IsChain, next_signed, pushed, tale_of, texts_in}
use Rattle.satp_chain.specs.Verdicts.{Follows}
use Rattle.satp_chain.specs.declared.signed.Signed.{Signed}
use Rattle.satp_sides.specs.LogLaws.{IsOfRole}
use Rattle.satp_sides.specs.Logs.{IsNote, MayCome}
use Rattle.satp_sides.specs.Points.{Party, Slot, Stored, Text, begun, chain_in, most_sessions, recipient_at, records_of, slot, stored, view_in}
use Rattle.satp_sides.proofs.Growth.{Carries, no-text, note-tale, one-text, pushed-tale}
use Rattle.satp_sides.proofs.Growth.Carries.{As_made, As_taken}
use Rattle.satp_sides.proofs.LogLaw.{reached-keeps, reached-more}
use Rattle.satp_sides.proofs.Records.{chain-here, chain-none, push-head, session-self, view-first, view-here, view-none}
use Rattle.satp_log.specs.declared.fault.Misfit.{Misfit}
use Rattle.satp_log.specs.declared.fault.Misfit.TheVariants.{Refused, Memory}
use Rattle.satp_log.specs.Folding.{AddAnswers, AddsOne, FitsChain, HasKind, HasMessage, HasOtherText, HasRoom, HasText, IsNextOf, IsNextOfSome, IsProposed, IsSound, IsStateOf, MessageAnswers, State, proposal_text, text_with}
use Rattle.satp_log.proofs.Comings.{Comes, Says, began-once, comes, made-fits, may, took-fits}

-- ---- slots

pub slot-parts : (o : Option View) (ts : List Text) (v : View) (texts : List Text) → option_map (λ w. slot w ts) o ≡ Some (slot v texts) → (o ≡ Some v) × (ts ≡ texts)
slot-parts None ts v texts e = absurd (cc e)
slot-parts (Some w) ts v texts e = let same : slot w ts ≡ slot v texts = cc e in (ap (λ (l : Slot). Some l.view) same, ap (λ (l : Slot). l.texts) same)

pub slot-from : (o : Option View) (ts : List Text) (v : View) (texts : List Text) → o ≡ Some v → ts ≡ texts → option_map (λ w. slot w ts) o ≡ Some (slot v texts)
slot-from o ts v texts e h = ap₂ (λ (x : Option View) (y : List Text). option_map (λ w. slot w y) x) e h

some-is : (v w : View) → Some v ≡ Some w → v ≡ w
some-is v w e = cc e

none-is : (v : View) → None ≡ Some v → ⊥
none-is v e = cc e

-- ---- what the chain takes

pub tale-fits : (v : View) (chain : Chained) (kind : Kind) → IsSound v chain → IsTale (v.tale ++ kind ∷ []) → IsTale (tale_of chain ++ kind ∷ [])
tale-fits v chain kind k h = subst (λ t. IsTale (t ++ kind ∷ [])) (sym k.tale) h

pub fits-chain : (v : View) (chain : Chained) (r : Rec) → IsSound v chain → RoleRule v.role v r → FitsChain chain r
fits-chain v chain (Began role terms) k rule = began-once v.role v role terms rule
fits-chain v chain (Took kind) k rule = let h = took-fits v kind k.reached rule in (tale-fits v chain kind k h.0, h.1)
fits-chain v chain (Made kind) k rule = let h = made-fits v kind k.reached rule in (tale-fits v chain kind k h.0, h.1)
fits-chain v chain (Did op) k rule = tt
fits-chain v chain (Chose way) k rule = tt
fits-chain v chain Rescue k rule = tt

pub message-follows : (chain : Chained) (key : List ℕ) (r : Rec) (text : List ℕ) (signed : Signed) → HasMessage chain key r text (Some signed) → Follows chain signed
message-follows chain key (Began role terms) text signed h = absurd h
message-follows chain key (Took kind) text signed h = h.3.1
message-follows chain key (Made kind) text signed h = h.3.1
message-follows chain key (Did op) text signed h = absurd h
message-follows chain key (Chose way) text signed h = absurd h
message-follows chain key Rescue text signed h = absurd h

-- the record carries a message of some kind
carried : (chain : Chained) (key : List ℕ) (r : Rec) (text : List ℕ) (signed : Signed) → HasMessage chain key r text (Some signed) → (kind : Kind) × Carries kind r × HasKind chain key kind text (Some signed)
carried chain key (Began role terms) text signed h = absurd h
carried chain key (Took kind) text signed h = (kind, As_taken, h)
carried chain key (Made kind) text signed h = (kind, As_made, h)
carried chain key (Did op) text signed h = absurd h
carried chain key (Chose way) text signed h = absurd h
carried chain key Rescue text signed h = absurd h

kind-pushed : (chain : Chained) (signed : Signed) → tale_of (pushed chain signed) ≡ tale_of chain ++ kind_of signed.message.body ∷ []
kind-pushed chain signed = map-append (λ (x : Signed). kind_of x.message.body) chain.kept (signed ∷ [])

text-pushed : (chain : Chained) (signed : Signed) → texts_in (pushed chain signed) ≡ texts_in chain ++ signed.text ∷ []
text-pushed chain signed = map-append (λ (x : Signed). x.text) chain.kept (signed ∷ [])

kind-is : (chain : Chained) (key : List ℕ) (kind : Kind) (text : List ℕ) (signed : Signed) → HasKind chain key kind text (Some signed) → kind_of signed.message.body ≡ kind
kind-is chain key kind text signed (q, f, k, (same, follows, t)) = ap (λ (x : Signed). kind_of x.message.body) same ∙ k

reached-pushed : (v : View) (r : Rec) → IsReached v.role v → RoleRule v.role v r → IsReached (push v r).role (push v r)
reached-pushed v r k rule = subst (λ x. IsReached x (push v r)) (sym (push-head v r).0) (reached-more v.role v r k rule)

pub sound-message : (v : View) (chain : Chained) (key : List ℕ) (r : Rec) (text : List ℕ) (signed : Signed) → IsSound v chain → RoleRule v.role v r → HasMessage chain key r text (Some signed) → IsSound (push v r) (pushed chain signed)
sound-message v chain key r text signed k rule h =
    let (kind, c, m) = carried chain key r text signed h in
    record {
      tale = kind-pushed chain signed ∙ ap₂ (λ (t : List Kind) (j : Kind). t ++ j ∷ []) k.tale (kind-is chain key kind text signed m) ∙ sym (pushed-tale v kind r c);
      reached = reached-pushed v r k.reached rule;
    }

pub sound-note : (v : View) (chain : Chained) (r : Rec) → IsSound v chain → RoleRule v.role v r → IsNote r → IsSound (push v r) chain
sound-note v chain r k rule n = record { tale = k.tale ∙ sym (note-tale v r n); reached = reached-pushed v r k.reached rule }

pub is-noted : (chain : Chained) (key : List ℕ) (r : Rec) (text : List ℕ) → HasMessage chain key r text None → IsNote r × (text ≡ [])
is-noted chain key (Began role terms) text h = h
is-noted chain key (Took kind) text h = h
is-noted chain key (Made kind) text h = h
is-noted chain key (Did op) text h = h
is-noted chain key (Chose way) text h = h
is-noted chain key Rescue text h = h

-- ---- one record more

module _ (p : Party) (s : SessionId) (xs : List Stored) (old : State) (key : List ℕ) (e : p.key ≡ key) (h : IsStateOf p s xs old) where
  parts : (view_in s xs ≡ Some old.view) × (chain_in s xs ≡ texts_in old.chain)
  parts = slot-parts (view_in s xs) (chain_in s xs) old.view (texts_in old.chain) h.slot

  pub next-is : (q : Part) → (next_signed old.chain key q).text ≡ next_text s (recipient_at p old.view.role) p.key (chain_in s xs) q
  next-is q =
      ap (λ x. next_text x old.chain.recipient key (texts_in old.chain) q) h.session
      ∙ ap (λ x. next_text s x key (texts_in old.chain) q) h.recipient
      ∙ ap (λ k. next_text s (recipient_at p old.view.role) k (texts_in old.chain) q) (sym e)
      ∙ ap (λ ts. next_text s (recipient_at p old.view.role) p.key ts q) (sym parts.1)

  says : (r : Rec) (text : Text) (signed : Signed) (kind : Kind) → RoleRule old.view.role old.view r → HasKind old.chain key kind text (Some signed) → Says p xs s text r kind
  says r text signed kind rule (q, f, k, (same, follows, t)) =
      record { view = old.view; part = q; named = parts.0; rule = rule; formed = f; kind_is = k; text_is = t ∙ ap (λ (x : Signed). x.text) same ∙ next-is q }

  message-comes : (r : Rec) (text : Text) (signed : Signed) → RoleRule old.view.role old.view r → HasMessage old.chain key r text (Some signed) → Comes p xs s text r
  message-comes (Began role terms) text signed rule m = absurd m
  message-comes (Took kind) text signed rule m = says (Took kind) text signed kind rule m
  message-comes (Made kind) text signed rule m = says (Made kind) text signed kind rule m
  message-comes (Did op) text signed rule m = absurd m
  message-comes (Chose way) text signed rule m = absurd m
  message-comes Rescue text signed rule m = absurd m

  note-comes : (r : Rec) (text : Text) → RoleRule old.view.role old.view r → IsNote r → text ≡ [] → Comes p xs s text r
  note-comes (Began role terms) text rule n t = absurd n
  note-comes (Took kind) text rule n t = absurd n
  note-comes (Made kind) text rule n t = absurd n
  note-comes (Did op) text rule n t = record { view = old.view; named = parts.0; rule = rule; text_is = t }
  note-comes (Chose way) text rule n t = record { view = old.view; named = parts.0; rule = rule; text_is = t }
  note-comes Rescue text rule n t = record { view = old.view; named = parts.0; rule = rule; text_is = t }

  recipient-kept : (r : Rec) → old.chain.recipient ≡ recipient_at p (push old.view r).role
  recipient-kept r = h.recipient ∙ ap (recipient_at p) (sym (push-head old.view r).0)

  pub add-message : (r : Rec) (text : Text) (signed : Signed) → RoleRule old.view.role old.view r → HasMessage old.chain key r text (Some signed) → IsSound (push old.view r) (pushed old.chain signed)
      → ((k : List ℕ) → IsChain old.chain k → signed.text ≡ own k signed.message → IsChain (pushed old.chain signed) k)
      → MayCome p xs (stored s r text) × IsStateOf p s (xs ++ stored s r text ∷ []) (record { view = push old.view r; chain = pushed old.chain signed })
  add-message r text signed rule m sound chained =
      let (kind, c, has) = carried old.chain key r text signed m in
      let t : text ≡ signed.text = has.3.2 in
      let same = has.3.0 in
      let own-text : signed.text ≡ own key signed.message = ap (λ (x : Signed). x.text) same ∙ sym (ap (λ (x : Signed). own key x.message) same) in (
        may p xs s text r (message-comes r text signed rule m),
        record {
          slot = slot-from (view_in s (xs ++ stored s r text ∷ [])) (chain_in s (xs ++ stored s r text ∷ [])) (push old.view r) (texts_in (pushed old.chain signed))
              (view-here s xs (stored s r text) old.view (session-self s) parts.0)
              (one-text s xs kind r text c ∙ ap₂ (λ (ts : List Text) (u : Text). ts ++ u ∷ []) parts.1 t ∙ sym (text-pushed old.chain signed));
          session = h.session;
          recipient = recipient-kept r;
          chain = subst (IsChain (pushed old.chain signed)) (sym e) (chained key (subst (IsChain old.chain) e h.chain) own-text);
          sound = sound;
        },
      )

  pub add-note : (r : Rec) (text : Text) → RoleRule old.view.role old.view r → HasMessage old.chain key r text None → IsSound (push old.view r) old.chain
      → MayCome p xs (stored s r text) × IsStateOf p s (xs ++ stored s r text ∷ []) (record { view = push old.view r; chain = old.chain })
  add-note r text rule m sound =
      let (n, t) = is-noted old.chain key r text m in (
        may p xs s text r (note-comes r text rule n t),
        record {
          slot = slot-from (view_in s (xs ++ stored s r text ∷ [])) (chain_in s (xs ++ stored s r text ∷ [])) (push old.view r) (texts_in old.chain)
              (view-here s xs (stored s r text) old.view (session-self s) parts.0)
              (no-text s xs r text n ∙ parts.1);
          session = h.session;
          recipient = recipient-kept r;
          chain = h.chain;
          sound = sound;
        },
      )

  rule-of : (r : Rec) (v : View) → view_in s xs ≡ Some v → RoleRule v.role v r → RoleRule old.view.role old.view r
  rule-of r v named rule = subst (λ (w : View). RoleRule w.role w r) (some-is v old.view (sym named ∙ parts.0)) rule

  begun-not : records_of s xs ≡ [] → ⊥
  begun-not new = none-is old.view (sym (view-none s xs new) ∙ parts.0)

  no-rule : (r : Rec) (text : Text) → (RoleRule old.view.role old.view r → ⊥) → Comes p xs s text r → ⊥
  no-rule (Began role terms) text n c = begun-not c.new
  no-rule (Took kind) text n c = n (rule-of (Took kind) c.view c.named c.rule)
  no-rule (Made kind) text n c = n (rule-of (Made kind) c.view c.named c.rule)
  no-rule (Did op) text n c = n (rule-of (Did op) c.view c.named c.rule)
  no-rule (Chose way) text n c = n (rule-of (Chose way) c.view c.named c.rule)
  no-rule Rescue text n c = n (rule-of Rescue c.view c.named c.rule)

  pub add-no-rule : (r : Rec) (text : Text) → (RoleRule old.view.role old.view r → ⊥) → MayCome p xs (stored s r text) → ⊥
  add-no-rule r text n m = no-rule r text n (comes p xs (stored s r text) m)

  other-says : (r : Rec) (text : Text) (kind : Kind) → HasKind old.chain key kind text None → Says p xs s text r kind → ⊥
  other-says r text kind n c =
      n c.part c.formed c.kind_is
      (c.text_is ∙ ap (λ (w : View). next_text s (recipient_at p w.role) p.key (chain_in s xs) c.part) (some-is c.view old.view (sym c.named ∙ parts.0)) ∙ sym (next-is c.part))

  other-text : (r : Rec) (text : Text) → HasOtherText old.chain key r text → Comes p xs s text r → ⊥
  other-text (Began role terms) text n c = begun-not c.new
  other-text (Took kind) text n c = other-says (Took kind) text kind n c
  other-text (Made kind) text n c = other-says (Made kind) text kind n c
  other-text (Did op) text n c = n c.text_is
  other-text (Chose way) text n c = n c.text_is
  other-text Rescue text n c = n c.text_is

  pub add-other-text : (r : Rec) (text : Text) → HasOtherText old.chain key r text → MayCome p xs (stored s r text) → ⊥
  add-other-text r text n m = other-text r text n (comes p xs (stored s r text) m)

-- ---- the first record

pub first-tale : (chain : Chained) → chain.kept ≡ [] → IsTale (tale_of chain ++ TransferProposal ∷ [])
first-tale chain e = subst (λ (kept : List Signed). IsTale (map (λ (x : Signed). kind_of x.message.body) kept ++ TransferProposal ∷ [])) (sym e) (Onward 1 (omega arith))

pub first-chain : (s : SessionId) (recipient : Name) (key : List ℕ) → IsChain (record { session = s; recipient = recipient; kept = [] }) key
unfolding texts_from
first-chain s recipient key = record { tale = Onward 0 (omega arith); formed = tt; each = refl }

-- the chain with its proposal
pub first-sound : (role : Role) (terms : Terms) (chain : Chained) (key : List ℕ) (signed : Signed) (text : List ℕ) → chain.kept ≡ [] → HasText chain key (part.Proposal terms) text (Some signed) → IsSound (begin role terms) (pushed chain signed)
first-sound role terms chain key signed text e h = record {
  tale = kind-pushed chain signed ∙ ap₂ (λ (kept : List Signed) (x : Signed). map (λ (y : Signed). kind_of y.message.body) kept ++ kind_of x.message.body ∷ []) e h.0;
  reached = record { terms = terms; recs = []; allowed = tt; view = refl };
}

own-next : (chain : Chained) (key : List ℕ) (q : Part) (signed : Signed) → signed ≡ next_signed chain key q → signed.text ≡ own key signed.message
own-next chain key q signed e = ap (λ (x : Signed). x.text) e ∙ sym (ap (λ (x : Signed). own key x.message) e)

pub proposed : (p : Party) (s : SessionId) (role : Role) (terms : Terms) (recipient : Name) (key : List ℕ) (chain more : Chained) (view : View) (signed : Signed) → recipient ≡ recipient_at p role → p.key ≡ key
    → chain ≡ record { session = s; recipient = recipient; kept = [] } → signed ≡ next_signed chain key (part.Proposal terms) → Follows chain signed → more ≡ pushed chain signed → view ≡ begin role terms
    → ((k : List ℕ) → IsChain chain k → signed.text ≡ own k signed.message → IsChain more k)
    → IsProposed p s role terms (record { view = view; chain = more })
proposed p s role terms recipient key chain more view signed same k is next follows grown v chained = record {
  view = v;
  texts = ap texts_in grown ∙ text-pushed chain signed ∙ ap₂ (λ (ts : List Text) (u : Text). ts ++ u ∷ []) (ap texts_in is)
      (ap (λ (x : Signed). x.text) next ∙ ap (λ ch. (next_signed ch key (part.Proposal terms)).text) is ∙ ap₂ (λ (x : Name) (y : List ℕ). next_text s x y [] (part.Proposal terms)) same (sym k));
  session = ap (λ (ch : Chained). ch.session) grown ∙ ap (λ (ch : Chained). ch.session) is;
  recipient = ap (λ (ch : Chained). ch.recipient) grown ∙ ap (λ (ch : Chained). ch.recipient) is ∙ same;
  chain = chained p.key (subst (λ ch. IsChain ch p.key) (sym is) (first-chain s recipient p.key)) (own-next chain key (part.Proposal terms) signed next ∙ ap (λ y. own y signed.message) (sym k));
  sound = subst (λ w. IsSound w more) (sym v) (subst (IsSound (begin role terms)) (sym grown) (first-sound role terms chain key signed signed.text (ap (λ (ch : Chained). ch.kept) is) (next, follows, refl)));
}

pub proposed-state : (p : Party) (s : SessionId) (xs : List Stored) (role : Role) (terms : Terms) (state : State) → IsProposed p s role terms state → IsOfRole p s role → records_of s xs ≡ [] → begun role xs < most_sessions
    → AddsOne p s xs (Began role terms) (proposal_text p s role terms) state
proposed-state p s xs role terms state q whose new room =
    let text = proposal_text p s role terms in
    let x = stored s (Began role terms) text in (
      may p xs s text (Began role terms) (record { whose = whose; new = new; room = room; text_is = refl }),
      record {
        slot = slot-from (view_in s (xs ++ x ∷ [])) (chain_in s (xs ++ x ∷ [])) state.view (texts_in state.chain)
            (view-first s xs x (session-self s) new ∙ ap Some (sym q.view))
            (chain-here s xs x (session-self s) ∙ ap (λ (ts : List Text). ts ++ text ∷ []) (chain-none s xs new) ∙ sym q.texts);
        session = q.session;
        recipient = q.recipient ∙ ap (λ (v : View). recipient_at p v.role) (sym q.view);
        chain = q.chain;
        sound = q.sound;
      },
    )

module _ (p : Party) (s : SessionId) (xs : List Stored) (new : records_of s xs ≡ []) where
  unnamed : (v : View) → view_in s xs ≡ Some v → ⊥
  unnamed v e = none-is v (sym (view-none s xs new) ∙ e)

  no-begin : (r : Rec) (text : Text) → ((role : Role) (terms : Terms) → r ≡ Began role terms → ⊥) → Comes p xs s text r → ⊥
  no-begin (Began role terms) text n c = n role terms refl
  no-begin (Took kind) text n c = unnamed c.view c.named
  no-begin (Made kind) text n c = unnamed c.view c.named
  no-begin (Did op) text n c = unnamed c.view c.named
  no-begin (Chose way) text n c = unnamed c.view c.named
  no-begin Rescue text n c = unnamed c.view c.named

  pub begin-else : (r : Rec) (text : Text) → ((role : Role) (terms : Terms) → r ≡ Began role terms → ⊥) → MayCome p xs (stored s r text) → ⊥
  begin-else r text n m = no-begin r text n (comes p xs (stored s r text) m)

  whose-else : (role : Role) (terms : Terms) (text : Text) → (IsOfRole p s role → ⊥) → MayCome p xs (stored s (Began role terms) text) → ⊥
  whose-else role terms text n m = n (comes p xs (stored s (Began role terms) text) m).whose

  pub begin-whose : (r : Rec) (role : Role) (terms : Terms) (text : Text) → r ≡ Began role terms → (IsOfRole p s role → ⊥) → MayCome p xs (stored s r text) → ⊥
  begin-whose r role terms text e n m = whose-else role terms text n (subst (λ x. MayCome p xs (stored s x text)) e m)

  pub begin-text : (r : Rec) (role : Role) (terms : Terms) (text : Text) (recipient : Name) (key : List ℕ) (chain : Chained) → r ≡ Began role terms → recipient ≡ recipient_at p role → p.key ≡ key → chain ≡ record { session = s; recipient = recipient; kept = [] }
      → HasText chain key (part.Proposal terms) text None → MayCome p xs (stored s r text) → ⊥
  begin-text r role terms text recipient key chain e same k is n m =
      let c = comes p xs (stored s (Began role terms) text) (subst (λ x. MayCome p xs (stored s x text)) e m) in
      n (c.text_is ∙ ap₂ (λ (x : Name) (y : List ℕ). next_text s x y [] (part.Proposal terms)) (sym same) k ∙ ap (λ (ch : Chained). (next_signed ch key (part.Proposal terms)).text) (sym is))

  first-state : (role : Role) (terms : Terms) (text : Text) (recipient : Name) (signed : Signed) → IsOfRole p s role → begun role xs < most_sessions → recipient ≡ recipient_at p role
      → HasText (record { session = s; recipient = recipient; kept = [] }) p.key (part.Proposal terms) text (Some signed)
      → ((k : List ℕ) → IsChain (record { session = s; recipient = recipient; kept = [] }) k → signed.text ≡ own k signed.message → IsChain (pushed (record { session = s; recipient = recipient; kept = [] }) signed) k)
      → MayCome p xs (stored s (Began role terms) text)
      × IsStateOf p s (xs ++ stored s (Began role terms) text ∷ []) (record { view = begin role terms; chain = pushed (record { session = s; recipient = recipient; kept = [] }) signed })
  first-state role terms text recipient signed whose room same h chained =
      let chain : Chained = record { session = s; recipient = recipient; kept = [] } in
      let own-text : signed.text ≡ own p.key signed.message = ap (λ (x : Signed). x.text) h.0 ∙ sym (ap (λ (x : Signed). own p.key x.message) h.0) in
      let t : text ≡ signed.text = h.2 in
      let is = t ∙ ap (λ (x : Signed). x.text) h.0 ∙ ap (λ x. next_text s x p.key [] (part.Proposal terms)) same in (
        may p xs s text (Began role terms) (record { whose = whose; new = new; room = room; text_is = is }),
        record {
          slot = slot-from (view_in s (xs ++ stored s (Began role terms) text ∷ [])) (chain_in s (xs ++ stored s (Began role terms) text ∷ [])) (begin role terms) (texts_in (pushed chain signed))
              (view-first s xs (stored s (Began role terms) text) (session-self s) new)
              (chain-here s xs (stored s (Began role terms) text) (session-self s) ∙ ap₂ (λ (ts : List Text) (u : Text). ts ++ u ∷ []) (chain-none s xs new) t);
          session = refl;
          recipient = same;
          chain = chained p.key (first-chain s recipient p.key) own-text;
          sound = first-sound role terms chain p.key signed text refl h;
        },
      )

  pub begin-state : (r : Rec) (role : Role) (terms : Terms) (text : Text) (recipient : Name) (key : List ℕ) (chain new-chain : Chained) (view : View) (signed : Signed) → r ≡ Began role terms → HasRoom r xs → IsOfRole p s role
      → recipient ≡ recipient_at p role → p.key ≡ key → chain ≡ record { session = s; recipient = recipient; kept = [] } → HasText chain key (part.Proposal terms) text (Some signed)
      → new-chain ≡ pushed chain signed → view ≡ begin role terms
      → ((k : List ℕ) → IsChain chain k → signed.text ≡ own k signed.message → IsChain new-chain k)
      → MayCome p xs (stored s r text) × IsStateOf p s (xs ++ stored s r text ∷ []) (record { view = view; chain = new-chain })
  begin-state r role terms text recipient key chain new-chain view signed e room whose same k is h more v chained =
      let empty : Chained = record { session = s; recipient = recipient; kept = [] } in
      let h' = subst (λ y. HasText empty y (part.Proposal terms) text (Some signed)) (sym k) (subst (λ ch. HasText ch key (part.Proposal terms) text (Some signed)) is h) in
      let chained' : (y : List ℕ) → IsChain empty y → signed.text ≡ own y signed.message → IsChain (pushed empty signed) y =
      subst (λ ch. (y : List ℕ) → IsChain ch y → signed.text ≡ own y signed.message → IsChain (pushed ch signed) y) is
      (subst (λ nc. (y : List ℕ) → IsChain chain y → signed.text ≡ own y signed.message → IsChain nc y) more chained) in
      let room' : begun role xs < most_sessions = subst (λ x. HasRoom x xs) e room in
      let all = first-state role terms text recipient signed whose room' same h' chained' in
      subst (λ x. MayCome p xs (stored s x text) × IsStateOf p s (xs ++ stored s x text ∷ []) (record { view = view; chain = new-chain })) (sym e) (
        all.0,
        subst (λ nc. IsStateOf p s (xs ++ stored s (Began role terms) text ∷ []) (record { view = view; chain = nc })) (ap (λ ch. pushed ch signed) (sym is) ∙ sym more)
            (subst (λ w. IsStateOf p s (xs ++ stored s (Began role terms) text ∷ []) (record { view = w; chain = pushed empty signed })) (sym v) all.1),
      )

-- ---- answers

module _ (p : Party) (s : SessionId) (xs : List Stored) (now old : State) (key : List ℕ) (e : p.key ≡ key) (is : old ≡ now) (h : IsStateOf p s xs now) where
  there : IsStateOf p s xs old
  there = subst (IsStateOf p s xs) (sym is) h

  pub unruled : (r : Rec) (text : Text) → (RoleRule old.view.role old.view r → ⊥) → AddAnswers p s xs now r text now (Err Refused)
  unruled r text n = (add-no-rule p s xs old key e there r text n, refl)

  pub unheard : (r : Rec) (text : Text) (m : Misfit) → MessageAnswers old.chain key r text (Err m) → AddAnswers p s xs now r text now (Err m)
  unheard r text Refused n = (add-other-text p s xs old key e there r text n, refl)
  unheard r text Memory n = refl

  pub with-message : (r : Rec) (text : Text) (signed : Signed) (view : View) (chain : Chained) → RoleRule old.view.role old.view r → HasMessage old.chain key r text (Some signed) → IsSound old.view old.chain
      → view ≡ push old.view r → chain ≡ pushed old.chain signed → ((k : List ℕ) → IsChain old.chain k → signed.text ≡ own k signed.message → IsChain chain k)
      → AddAnswers p s xs now r text (record { view = view; chain = chain }) (Ok tt)
  with-message r text signed view chain rule m sound v c chained =
      let all = add-message p s xs old key e there r text signed rule m (sound-message old.view old.chain key r text signed sound rule m)
      (subst (λ nc. (k : List ℕ) → IsChain old.chain k → signed.text ≡ own k signed.message → IsChain nc k) c chained) in (
        all.0,
        subst (λ w. IsStateOf p s (xs ++ stored s r text ∷ []) (record { view = w; chain = chain })) (sym v)
            (subst (λ ch. IsStateOf p s (xs ++ stored s r text ∷ []) (record { view = push old.view r; chain = ch })) (sym c) all.1),
      )

  pub without-message : (r : Rec) (text : Text) (view : View) → RoleRule old.view.role old.view r → HasMessage old.chain key r text None → IsSound old.view old.chain → view ≡ push old.view r
      → AddAnswers p s xs now r text (record { view = view; chain = old.chain }) (Ok tt)
  without-message r text view rule m sound v =
      let all = add-note p s xs old key e there r text rule m (sound-note old.view old.chain r sound rule (is-noted old.chain key r text m).0) in
      (all.0, subst (λ w. IsStateOf p s (xs ++ stored s r text ∷ []) (record { view = w; chain = old.chain })) (sym v) all.1)

-- ---- a record whose message is there

pub there-next : (now old : State) (r : Rec) (message : Option Signed) → old ≡ now → IsNextOfSome now r message → IsNextOfSome old r message
there-next now old r message is n = subst (λ st. IsNextOfSome st r message) (sym is) n

pub has-of : (old : State) (key : List ℕ) (r : Rec) (message other : Option Signed) → message ≡ other → IsNextOf old key r message → HasMessage old.chain key r (text_with other) other
has-of old key r message other e n = subst (λ m. HasMessage old.chain key r (text_with m) m) e n.message_is

text-of-message : (chain : Chained) (key : List ℕ) (r : Rec) (text : Text) (message : Option Signed) → HasMessage chain key r text message → text ≡ text_with message
text-of-message chain key r text None h = (is-noted chain key r text h).1
text-of-message chain key (Began role terms) text (Some signed) h = absurd h
text-of-message chain key (Took kind) text (Some signed) h = h.3.2
text-of-message chain key (Made kind) text (Some signed) h = h.3.2
text-of-message chain key (Did op) text (Some signed) h = absurd h
text-of-message chain key (Chose way) text (Some signed) h = absurd h
text-of-message chain key Rescue text (Some signed) h = absurd h

pub next-of : (now old : State) (key : List ℕ) (r : Rec) (text : Text) (message : Option Signed) → old ≡ now → RoleRule old.view.role old.view r → HasMessage old.chain key r text message → IsNextOf now key r message
next-of now old key r text message is rule h =
    subst (λ st. IsNextOf st key r message) is (record { rule = rule; message_is = subst (λ t. HasMessage old.chain key r t message) (text-of-message old.chain key r text message h) h })

pub added : (p : Party) (s : SessionId) (xs : List Stored) (now old : State) (key : List ℕ) (r : Rec) (text : Text) (message : Option Signed) (new : State) → p.key ≡ key → old ≡ now → RoleRule old.view.role old.view r
    → HasMessage old.chain key r text message → (IsNextOf now p.key r message → AddsOne p s xs r (text_with message) new) → AddsOne p s xs r text new
added p s xs now old key r text message new e is rule h one =
    subst (λ t. AddsOne p s xs r t new) (sym (text-of-message old.chain key r text message h)) (one (subst (λ k. IsNextOf now k r message) (sym e) (next-of now old key r text message is rule h)))

pub message-pushed : (p : Party) (s : SessionId) (xs : List Stored) (now old : State) (r : Rec) (message : Option Signed) (signed : Signed) (view : View) (chain : Chained) → old ≡ now → IsStateOf p s xs now → message ≡ Some signed → IsNextOf now p.key r message
    → IsSound old.view old.chain → view ≡ push old.view r → chain ≡ pushed old.chain signed → ((k : List ℕ) → IsChain old.chain k → signed.text ≡ own k signed.message → IsChain chain k)
    → AddsOne p s xs r (text_with message) (record { view = view; chain = chain })
message-pushed p s xs now old r message signed view chain is h e n sound v c chained =
    let here = subst (λ st. IsNextOf st p.key r message) (sym is) n in
    subst (λ m. AddsOne p s xs r (text_with m) (record { view = view; chain = chain })) (sym e)
    (with-message p s xs now old p.key refl is h r signed.text signed view chain here.rule (has-of old p.key r message (Some signed) e here) sound v c chained)

pub note-pushed : (p : Party) (s : SessionId) (xs : List Stored) (now old : State) (r : Rec) (message : Option Signed) (view : View) → old ≡ now → IsStateOf p s xs now → message ≡ None → IsNextOf now p.key r message
    → IsSound old.view old.chain → view ≡ push old.view r → AddsOne p s xs r (text_with message) (record { view = view; chain = old.chain })
note-pushed p s xs now old r message view is h e n sound v =
    let here = subst (λ st. IsNextOf st p.key r message) (sym is) n in
    subst (λ m. AddsOne p s xs r (text_with m) (record { view = view; chain = old.chain })) (sym e)
    (without-message p s xs now old p.key refl is h r [] view here.rule (has-of old p.key r message None e here) sound v)

pub sound-after : (old : State) (key : List ℕ) (r : Rec) (text : Text) (signed : Signed) (view : View) (chain : Chained) → RoleRule old.view.role old.view r → HasMessage old.chain key r text (Some signed) → IsSound old.view old.chain
    → view ≡ push old.view r → chain ≡ pushed old.chain signed → IsSound view chain
sound-after old key r text signed view chain rule m sound v c =
    subst (λ w. IsSound w chain) (sym v) (subst (IsSound (push old.view r)) (sym c) (sound-message old.view old.chain key r text signed sound rule m))

pub sound-noted : (old : State) (key : List ℕ) (r : Rec) (text : Text) (view : View) → RoleRule old.view.role old.view r → HasMessage old.chain key r text None → IsSound old.view old.chain → view ≡ push old.view r → IsSound view old.chain
sound-noted old key r text view rule m sound v = subst (λ w. IsSound w old.chain) (sym v) (sound-note old.view old.chain r sound rule (is-noted old.chain key r text m).0)

pub keeps : (v : View) (chain : Chained) (r : Rec) → IsSound v chain → RoleRule v.role v r → KeepsTale v.tale r
keeps v chain r k rule = reached-keeps v.role v r k.reached rule

pub not-both : (b : Bool) → b ≡ false → IsTrue b → ⊥
not-both b f t = let h : false ≡ true = sym f ∙ t in cc h
