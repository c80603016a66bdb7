use Rattle.std.proofs.Common.{◌∙◌, ap, sym, subst, map, codes, refl}
use Rattle.std.specs.Cmp.Lexicographic.{other_text, same_text}
use Rattle.std.proofs.lemmas.Result.{IfOk-weaker}
use Rattle.satp_words.specs.Commands.{form, verb_text}
use Rattle.satp_words.specs.Options.{HasMatches}
use Rattle.satp_words.proofs.Listings.{begins, is_command, listed, no_verb, only, same_values, value_is}
use Rattle.satp_words.proofs.OneCommand.{complete_of}
use Rattle.satp_words.proofs.reader.read.Goals as goal

pub answer-requires : goal.answer-requires
answer-requires c = begins c.args.words.now c.in-Some.first.now (codes "answer") c.in-Some.ensures (sym c.bytes.ensures ∙ same_text _ _ c.if-eq.ensures ∙ c.as_slice.ensures)

pub returns-in_default-find_verb-clause-refused : goal.returns-in_default-find_verb-clause-refused
returns-in_default-find_verb-clause-refused c e =
    no_verb c.args.words.now c.in-Some.first.now c.in-Some.ensures (λ is. other_text _ _ c.if-eq.ensures (c.bytes.ensures ∙ is ∙ sym c.as_slice.ensures)) (λ verb is. c.find_verb.ensures.none c.in_default-find_verb.is verb (c.bytes-2.ensures ∙ is))

pub returns-in_default-find_verb-clause-complete : goal.returns-in_default-find_verb-clause-complete
returns-in_default-find_verb-clause-complete c command l = absurd (returns-in_default-find_verb-clause-refused c refl command l)

pub returns-clause-listed : goal.returns-clause-listed
returns-clause-listed c =
    let verb = c.in-Some-find_verb.verb in
    let same = ap (map (λ word. word.now)) c.as_slice-2.ensures.value ∙ c.in_ok-texts.ensures.ok.0 in
    let matches = subst (λ ws. HasMatches (form verb) ws c.in_ok-found.found) same c.in_ok-found.ensures.ok in
    let first = begins c.args.words.now c.in-Some.first.now (verb_text verb) c.in-Some.ensures (sym c.bytes-2.ensures ∙ c.in-Some-find_verb.ensures.some) in
    let command = is_command verb c.args.words.now c.in_ok-found.found first c.in_ok-texts.ensures.ok.1 matches in
    IfOk-weaker c.values.result _ _ (λ it h. listed c.args.words.now verb it command (h.0, same_values _ _ (λ id. value_is verb c.args.words.now c.in_ok-found.found id matches) it h.1)) c.values.ensures.ok

pub returns-clause-refused : goal.returns-clause-refused
returns-clause-refused c e =
    let verb = c.in-Some-find_verb.verb in
    let same = ap (map (λ word. word.now)) c.as_slice-2.ensures.value ∙ c.in_ok-texts.ensures.ok.0 in
    let matches = subst (λ ws. HasMatches (form verb) ws c.in_ok-found.found) same c.in_ok-found.ensures.ok in
    let first = begins c.args.words.now c.in-Some.first.now (verb_text verb) c.in-Some.ensures (sym c.bytes-2.ensures ∙ c.in-Some-find_verb.ensures.some) in
    only c.args.words.now verb first (λ it is command has. c.values.ensures.refused e it is (same_values _ _ (λ id. sym (value_is verb c.args.words.now c.in_ok-found.found id matches)) it has))

pub returns-clause-complete : goal.returns-clause-complete
returns-clause-complete c = complete_of c.args.words.now c.values.result (returns-clause-listed c) (returns-clause-refused c)
