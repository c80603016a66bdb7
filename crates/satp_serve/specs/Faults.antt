-- The code and the words in which a fault of a request is answered.
use Rattle.std.specs.Prelude.{ℕ, codes}
use Rattle.satp_http.specs.declared.fault.HttpFault.{HttpFault}
use Rattle.satp_http.specs.declared.fault.HttpFault.TheVariants as fault
use Rattle.satp_phrases.specs.declared.phrase.Detail.TheVariants.{Nothing, Number}
use Rattle.satp_phrases.specs.Phrases.{Words}

-- (no request has the fault `Interim`)
abbrev pub fault_code : HttpFault → ℕ
fault_code fault.Head = 400
fault_code fault.ManyHeaders = 431
fault_code fault.HeadLong = 431
fault_code fault.Version = 505
fault_code fault.Method = 405
fault_code fault.Target = 404
fault_code fault.NoHost = 400
fault_code fault.TwoHosts = 400
fault_code fault.Chunked = 501
fault_code fault.Coding = 415
fault_code fault.Expect = 417
fault_code fault.LengthMissing = 411
fault_code fault.LengthBad = 400
fault_code (fault.BodyLong length) = 413
fault_code fault.Interim = 400
fault_code fault.Memory = 503

abbrev pub fault_words : HttpFault → Words
fault_words fault.Head = record { text = codes "head"; detail = Nothing }
fault_words fault.ManyHeaders = record { text = codes "many headers"; detail = Nothing }
fault_words fault.HeadLong = record { text = codes "head long"; detail = Nothing }
fault_words fault.Version = record { text = codes "version"; detail = Nothing }
fault_words fault.Method = record { text = codes "method"; detail = Nothing }
fault_words fault.Target = record { text = codes "target"; detail = Nothing }
fault_words fault.NoHost = record { text = codes "no host"; detail = Nothing }
fault_words fault.TwoHosts = record { text = codes "two hosts"; detail = Nothing }
fault_words fault.Chunked = record { text = codes "chunked"; detail = Nothing }
fault_words fault.Coding = record { text = codes "coding"; detail = Nothing }
fault_words fault.Expect = record { text = codes "expect"; detail = Nothing }
fault_words fault.LengthMissing = record { text = codes "length missing"; detail = Nothing }
fault_words fault.LengthBad = record { text = codes "length bad"; detail = Nothing }
fault_words (fault.BodyLong length) = record { text = codes "body long "; detail = Number length }
fault_words fault.Interim = record { text = codes "interim"; detail = Nothing }
fault_words fault.Memory = record { text = codes "memory"; detail = Nothing }
