-- What a request is answered with.
use Rattle.std.specs.Prelude.{◌≡◌, IsTrue, []}
use Rattle.satp_http.specs.Written.{is_answer_code}
use Rattle.satp_serve.specs.declared.responder.Replied.{Replied}

-- a code that is answered, and no body for 204
abbrev pub IsReplied : Replied → Type 0
IsReplied replied = IsTrue (is_answer_code replied.code) × (replied.code ≡ 204 → replied.body ≡ [])
