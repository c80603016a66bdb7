use Rattle.std.proofs.Common.{◌∙◌, sym, arith, subst}
use Rattle.std.specs.Str.{IsUtf8}
use Rattle.std.proofs.lemmas.Option.{slice_get_within}
use Rattle.satp_words.proofs.Texts.{all_at, all_taken, texts_end, texts_more}
use Rattle.satp_words.proofs.options.texts_of.Goals as goal

pub returns-in_default-from_utf8-clause-refused : goal.returns-in_default-from_utf8-clause-refused
returns-in_default-from_utf8-clause-refused c e all =
    c.in_default-from_utf8.ensures.cases.0 (subst IsUtf8 (sym c.bytes.ensures) (all_at IsUtf8 _ c.loop-word.index c.in-Some.word.now (sym c.in-Some.ensures) all))

pub loop-word-smaller : goal.loop-word-smaller
loop-word-smaller c = let within = slice_get_within c.args.words.now c.loop-word.index _ (sym c.in-Some.ensures) in omega (arith, within)

pub loop-word-preserved : goal.loop-word-preserved
loop-word-preserved c =
    let got = sym c.in-Some.ensures in
    let i = c.loop-word.index in
    let words = c.args.words.now in
    let within = slice_get_within words i c.in-Some.word.now got in
    record {
      within = omega (arith, within);
      texts = texts_more _ _ c.in-Ok.text _ words i c.in-Some.word.now c.push.ensures.items c.if-is_err.ensures.negation c.loop-word.invariant.texts got (c.in-Ok.ensures.cases.0 ∙ c.bytes.ensures);
      utf8 = all_taken IsUtf8 words i c.in-Some.word.now got (subst IsUtf8 c.bytes.ensures c.in-Ok.ensures.cases.1) c.loop-word.invariant.utf8;
    }

pub returns-clause-ok : goal.returns-clause-ok
returns-clause-ok c = texts_end IsUtf8 _ c.args.words.now c.loop-word.index (sym c.in_default.ensures) c.loop-word.invariant.texts c.loop-word.invariant.utf8
