use Rattle.std.proofs.Common.{◌≡◌, ◌≢◌, ℕ, List, [], ◌∷◌, ◌++◌, Some, None, length, refl, sym, ap, ◌∙◌, subst, arith, lit≤, length-append}
use Rattle.std.specs.Fmt.{digits}
use Rattle.std.specs.Prelude.{codes, slice_index}
use Rattle.satp_base.specs.Canonical.{IsText, canonical, kind_of}
use Rattle.satp_base.specs.declared.message.Kind.TheVariants.{ProposalReceipt, TransferCommence, TransferProposal}
use Rattle.satp_base.specs.declared.message.Message.{Message}
use Rattle.satp_base.specs.declared.message.Terms.{Terms}
use Rattle.satp_base.specs.declared.name.Name.{Name}
use Rattle.satp_canon.specs.FirstFault.{first_fault}
use Rattle.satp_canon.specs.declared.fault.CanonFault.{CanonFault}
use Rattle.satp_canon.proofs.ReadFaults.{text_fine}
use Rattle.satp_app.specs.Answer.{Answers, answer_to, terms_proposed}
use Rattle.satp_app.specs.Check.{line}
use Rattle.satp_outcome.specs.Texts.{IsOnly}
use Rattle.satp_examples.specs.Messages.{proposal_text}
use Rattle.satp_examples.specs.Replies.{commence, proposal, receipt, too_long}
use Rattle.satp_examples.specs.Samples.{alpha, beta, quarter}
use Rattle.satp_examples.proofs.Proposals.{only_commence, only_proposal, proposal_formed, proposal_is, the_commence, the_proposal}
use Rattle.satp_examples.proofs.replies.law_replies.Goals as goal

other_name : alpha ≢ beta
other_name e = let bad : 5 ≡ 4 = ap (λ (n : Name). n.count) e in absurd (omega (arith, bad))

-- a newline more makes another text
longer : (t : List ℕ) → t ≢ t ++ 10 ∷ []
longer t e = let same : length t ≡ length (t ++ 10 ∷ []) = ap length e in let more = length-append t (10 ∷ []) in absurd (omega (arith, same, more))

no_newline : (m : Message) → m ≡ proposal → Answers beta quarter m proposal_text receipt → ⊥
no_newline m is a =
    let same : a.receipt ≡ receipt = a.canonical ∙ ap (λ x. canonical (answer_to beta x proposal_text ProposalReceipt)) is in
    longer receipt (a.newline ∙ ap (λ r. r ++ 10 ∷ []) same)

terms_are : (m : Message) (terms : Terms) → m ≡ proposal → terms_proposed m.body ≡ Some terms → terms ≡ quarter
terms_are m terms is e = let same : Some quarter ≡ Some terms = subst (λ (x : Message). terms_proposed x.body ≡ Some terms) is e in sym (some_terms quarter terms same)
  where
    some_terms : (a b : Terms) → Some a ≡ Some b → a ≡ b
    some_terms a b e = cc

proposes : (m : Message) → m ≡ proposal → terms_proposed m.body ≡ None → ⊥
proposes m is e = let none : Some quarter ≡ None = subst (λ (x : Message). terms_proposed x.body ≡ None) is e in absurd cc

proposes_not : (m : Message) (terms : Terms) → m ≡ commence → terms_proposed m.body ≡ Some terms → ⊥
proposes_not m terms is e = let some : None ≡ Some terms = subst (λ (x : Message). terms_proposed x.body ≡ Some terms) is e in absurd cc

pub returns-clause-answer : goal.returns-clause-answer
unfolding first_fault
returns-clause-answer c = record {
  the_receipt = (proposal, quarter, (the_proposal, refl), refl, record { due = refl; receipt = receipt; canonical = refl; newline = refl });
  another_receiver = (proposal, quarter, (the_proposal, refl), λ e. other_name (sym e));
  no_proposal = (commence, the_commence, refl);
  a_long_text = refl;
  no_receipt_of_another_gateway = λ printed h. other_name (sym (ap (λ (m : Message). m.receiver) (sym (only_proposal h.0 h.2.0)) ∙ h.3));
  not_without_the_newline = λ h. no_newline h.0 (only_proposal h.0 h.2.0) (subst (λ t. Answers beta t h.0 proposal_text receipt) (terms_are h.0 h.1 (only_proposal h.0 h.2.0) h.2.1) h.4);
  not_refused_by_its_receiver = λ h. h.3 (ap (λ (m : Message). m.receiver) (only_proposal h.0 h.2.0));
  not_refused_by_its_kind = λ h. proposes h.0 (only_proposal h.0 h.1) h.2;
  no_receipt_of_no_proposal = λ printed h. proposes_not h.0 h.1 (only_commence h.0 h.2.0) h.2.1;
  no_signature_is_read = λ fault h. h;
}

-- the kind begins behind `text `
other_line : (text : List ℕ) (m : Message) → m ≡ proposal → line (codes "text ") TransferCommence (length text) ≡ line (codes "text ") (kind_of m.body) (length text) → ⊥
other_line text m is e =
    let same : line (codes "text ") TransferCommence (length text) ≡ line (codes "text ") TransferProposal (length text) = e ∙ ap (λ (x : Message). line (codes "text ") (kind_of x.body) (length text)) is in
    let bad : 99 ≡ 112 = ap (λ xs. slice_index xs 14) same in omega (arith, bad)

pub returns-clause-check : goal.returns-clause-check
unfolding first_fault digits
returns-clause-check c = record {
  a_proposal = (proposal, the_proposal, refl);
  its_line = refl;
  a_long_text = refl;
  not_of_another_kind = λ h. other_line proposal_text h.0 (only_proposal h.0 h.1) h.2;
  not_as_if_signed = λ h. let bad : 106 ≡ 116 = ap (λ xs. slice_index xs 0) h.2 in absurd (omega (arith, bad));
  no_receiver_is_asked = λ h. h;
  no_kind_is_refused = λ h. h;
}

-- ---- signed texts

refused_not : (fault : CanonFault) → first_fault proposal_text ≡ Some fault → ⊥
refused_not fault e =
    let long : length proposal_text ≡ 242 = refl in
    let none : None ≡ Some fault = sym (text_fine proposal proposal_text proposal_formed proposal_is (omega (arith, long))) ∙ e in absurd cc

pub returns-clause-signed : goal.returns-clause-signed
unfolding first_fault
returns-clause-signed c = record {
  a_proposal = λ key header shows. (proposal_text, proposal, record { own = shows.0; header = header; accepted = shows.1; signed = refl }, the_proposal, refl);
  a_long_text = λ key header shows. (too_long, record { own = shows.0; header = header; accepted = shows.1; signed = refl }, refl);
  not_refused_by_another_payload = λ key header shows fault h. refused_not fault (subst (λ p. first_fault p ≡ Some fault) (h.1.own ∙ sym shows.0) h.2);
  not_as_if_unsigned = λ key text h. let bad : 116 ≡ 106 = ap (λ xs. slice_index xs 0) h.4 in absurd (omega (arith, bad));
  no_receiver_is_asked = λ key header h. h;
  no_kind_is_refused = λ key header h. h;
}
