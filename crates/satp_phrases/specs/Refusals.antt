-- The words in which a gateway's refusal is told.
use Rattle.std.specs.Prelude.{ℕ, codes}
use Rattle.satp_base.specs.declared.verdict.Verdict.{Verdict}
use Rattle.satp_base.specs.declared.verdict.Verdict.TheVariants as verdict
use Rattle.satp_canon.specs.declared.fault.CanonFault.{CanonFault}
use Rattle.satp_canon.specs.declared.fault.CanonFault.TheVariants as canon
use Rattle.satp_jws.specs.declared.fault.JwsFault.{JwsFault}
use Rattle.satp_jws.specs.declared.fault.JwsFault.TheVariants as jws
use Rattle.satp_points.specs.declared.fault.Refused.{Refused}
use Rattle.satp_points.specs.declared.fault.Refused.TheVariants as refused
use Rattle.satp_recovery.specs.declared.choice.RecoveryFault.{RecoveryFault}
use Rattle.satp_recovery.specs.declared.choice.RecoveryFault.TheVariants as recovery
use Rattle.satp_phrases.specs.declared.phrase.Detail.TheVariants.{Nothing, Number, Member, Session}
use Rattle.satp_phrases.specs.Phrases.{Words}

abbrev pub jws_words : JwsFault → Words
jws_words (jws.Parts count) = record { text = codes "jws parts "; detail = Number count }
jws_words (jws.NotBase64 part) = record { text = codes "jws base64 "; detail = Number part }
jws_words jws.Header = record { text = codes "jws header"; detail = Nothing }
jws_words jws.Algorithm = record { text = codes "jws algorithm"; detail = Nothing }
jws_words jws.Critical = record { text = codes "jws critical"; detail = Nothing }
jws_words jws.Signature = record { text = codes "jws signature"; detail = Nothing }
jws_words jws.Memory = record { text = codes "memory"; detail = Nothing }

abbrev pub canon_words : CanonFault → Words
canon_words (canon.Long length) = record { text = codes "long "; detail = Number length }
canon_words canon.NotJson = record { text = codes "json"; detail = Nothing }
canon_words (canon.Member which) = record { text = codes "member "; detail = Member which }
canon_words (canon.Value which) = record { text = codes "value "; detail = Member which }
canon_words (canon.NotCanonical at) = record { text = codes "not canonical at "; detail = Number at }
canon_words canon.Memory = record { text = codes "memory"; detail = Nothing }

-- (the next message and one that the chain has are refused by no chain)
abbrev pub verdict_words : Verdict → Words
verdict_words verdict.Next = record { text = codes "next"; detail = Nothing }
verdict_words (verdict.Again place) = record { text = codes "again "; detail = Number place }
verdict_words (verdict.Gap length) = record { text = codes "gap "; detail = Number length }
verdict_words (verdict.Other place kept) = record { text = codes "other "; detail = Number place }
verdict_words (verdict.WrongPrevious kept) = record { text = codes "previous"; detail = Nothing }
verdict_words verdict.WrongSender = record { text = codes "sender"; detail = Nothing }
verdict_words (verdict.OffTale place) = record { text = codes "tale "; detail = Number place }

abbrev pub recovery_words : RecoveryFault → Words
recovery_words (recovery.Longer by) = record { text = codes "longer "; detail = Number by }
recovery_words (recovery.Shorter by) = record { text = codes "shorter "; detail = Number by }
recovery_words (recovery.OtherHash kept given) = record { text = codes "other hash"; detail = Nothing }
recovery_words (recovery.EntryRefused place) = record { text = codes "entry "; detail = Number place }

abbrev pub refusal_words : Refused → Words
refusal_words refused.Broken = record { text = codes "broken"; detail = Nothing }
refusal_words (refused.Size length) = record { text = codes "size "; detail = Number length }
refusal_words (refused.Jws fault) = jws_words fault
refusal_words refused.Header = record { text = codes "header"; detail = Nothing }
refusal_words (refused.Body fault) = canon_words fault
refusal_words refused.Receiver = record { text = codes "receiver"; detail = Nothing }
refusal_words (refused.Strange session) = record { text = codes "strange "; detail = Session session }
refusal_words (refused.Chain verdict) = verdict_words verdict
refusal_words (refused.Recovery fault) = recovery_words fault
refusal_words (refused.Full count) = record { text = codes "full "; detail = Number count }
refusal_words refused.Exists = record { text = codes "exists"; detail = Nothing }
refusal_words (refused.TooLate place) = record { text = codes "too late at place "; detail = Number place }
refusal_words refused.Site = record { text = codes "site"; detail = Nothing }
refusal_words refused.Memory = record { text = codes "memory"; detail = Nothing }
