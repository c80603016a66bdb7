use Rattle.std.proofs.Common.{◌∙◌, refl, ap, sym, Some, List, ℕ, codes, ◌∷◌, []}
use Rattle.satp_words.proofs.Listings.{no_answer, only_answer, two}
use Rattle.satp_words.proofs.OneCommand.{same_command}
use Rattle.satp_words.specs.declared.command.Command.TheVariants.{Answer}
use Rattle.satp_words.proofs.reader.answer.Goals as goal

pub returns-in-Ok-clause-listed : goal.returns-in-Ok-clause-listed
returns-in-Ok-clause-listed c =
    two _ _ c.args.words.now c.in-Some.word.now c.requires.1 (sym c.length.ensures ∙ c.if-length-ne2.false) c.in-Some.ensures ∙ ap (λ (t : List ℕ). codes "answer" ∷ t ∷ []) (sym (c.in-Ok.ensures.read.1 ∙ c.bytes.ensures))

pub returns-in-Err-clause-refused : goal.returns-in-Err-clause-refused
returns-in-Err-clause-refused c e = only_answer c.args.words.now c.requires (no_answer _ c.bytes.result.now c.in-Err.field-0 c.read.result (ap Some c.bytes.ensures ∙ c.in-Some.ensures) c.in-Err.is c.read.ensures.complete)

pub returns-in-Ok-clause-complete : goal.returns-in-Ok-clause-complete
returns-in-Ok-clause-complete c command l = same_command c.args.words.now (Answer c.in-Ok.name) command (returns-in-Ok-clause-listed c) l

pub returns-in-Err-clause-complete : goal.returns-in-Err-clause-complete
returns-in-Err-clause-complete c command l = absurd (returns-in-Err-clause-refused c refl command l)
