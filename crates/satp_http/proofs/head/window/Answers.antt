use Rattle.std.proofs.Common.{sym}
use Rattle.satp_http.proofs.WindowLemmas.{take_length, take_whole}
use Rattle.satp_http.proofs.head.window.Goals as goal

pub slice_bounds-result-end : goal.slice_bounds-result-end
slice_bounds-result-end c = take_length 8192 c.args.held.now c.if-held-gt-LONGEST.true

pub returns : goal.returns
returns c = sym (take_whole 8192 c.args.held.now c.if-held-gt-LONGEST.false)
