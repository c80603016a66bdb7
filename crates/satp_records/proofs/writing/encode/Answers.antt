use Rattle.std.proofs.Common.{◌≡◌, subst, sym}
use Rattle.std.specs.Prelude.{IfOk}
use Rattle.satp_records.specs.Formats.{payload_of}
use Rattle.satp_records.specs.declared.stored.Stored.{Stored}
use Rattle.satp_records.proofs.writing.encode.Goals as goal

pub returns-in-Asset : goal.returns-in-Asset
returns-in-Asset c = subst (λ (s : Stored). IfOk c.encode_asset.result (λ out. out ≡ payload_of s)) (sym c.in-Asset.is) c.encode_asset.ensures

pub returns-in-Hold : goal.returns-in-Hold
returns-in-Hold c = subst (λ (s : Stored). IfOk c.encode_hold.result (λ out. out ≡ payload_of s)) (sym c.in-Hold.is) c.encode_hold.ensures

pub returns-in-Act : goal.returns-in-Act
returns-in-Act c = subst (λ (s : Stored). IfOk c.encode_act.result (λ out. out ≡ payload_of s)) (sym c.in-Act.is) c.encode_act.ensures
