use Rattle.satp_base.proofs.GenesisReading.{accepts, on_ok, refuses, refuses_all}
use Rattle.satp_base.proofs.genesis.GenesisLineReader.add.Goals as goal

pub returns-in-Some-Asset-clause-ok : goal.returns-in-Some-Asset-clause-ok
returns-in-Some-Asset-clause-ok c = on_ok c.add_asset.result _ _ (accepts _ _ _ _ c.in-Some-Asset.field-0 c.in-Some-Asset.field-0-is c.in-Some-Asset.ensures.read) c.add_asset.ensures.ok

pub returns-in-Some-Asset-clause-refused : goal.returns-in-Some-Asset-clause-refused
returns-in-Some-Asset-clause-refused c = λ r. refuses _ _ _ c.in-Some-Asset.field-0 c.in-Some-Asset.field-0-is c.in-Some-Asset.ensures.complete (c.add_asset.ensures.refused r)

pub returns-in-Some-Hold-clause-ok : goal.returns-in-Some-Hold-clause-ok
returns-in-Some-Hold-clause-ok c = on_ok c.add_hold.result _ _ (accepts _ _ _ _ c.in-Some-Hold.field-0 c.in-Some-Hold.field-0-is c.in-Some-Hold.ensures.read) c.add_hold.ensures.ok

pub returns-in-Some-Hold-clause-refused : goal.returns-in-Some-Hold-clause-refused
returns-in-Some-Hold-clause-refused c = λ r. refuses _ _ _ c.in-Some-Hold.field-0 c.in-Some-Hold.field-0-is c.in-Some-Hold.ensures.complete (c.add_hold.ensures.refused r)

pub returns-in-None-clause-refused : goal.returns-in-None-clause-refused
returns-in-None-clause-refused c = λ r. refuses_all _ _ c.in-None.ensures.complete
