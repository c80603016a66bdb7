use Rattle.std.proofs.Common.{refl}
use Rattle.satp_http.specs.Written.{interim_text}
use Rattle.satp_http.proofs.write.interim_text.Goals as goal

pub returns : goal.returns
unfolding interim_text
returns c = refl
