use Rattle.std.proofs.lemmas.Option.{slice_get-get_or}
use Rattle.satp_words.specs.Options.{rule}
use Rattle.satp_words.proofs.Texts.{app_more}
use Rattle.satp_words.proofs.options.command.Goals as goal

pub loop-option-preserved : goal.loop-option-preserved
loop-option-preserved c = app_more rule _ _ _ _ c.args.options.now c.loop-option.option-index _ (slice_get-get_or c.args.options.now c.loop-option.option-index _ c.loop-option-test.true) c.loop-option.invariant c.argument.ensures.rule (c.in_ok-command.ensures.shape c.argument.ensures.local)
