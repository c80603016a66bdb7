use Rattle.std.proofs.Common.{List, ℕ, [], ◌≤◌, ◌+◌, length, subst, sym}
use Rattle.std.specs.List.{AllByRecursion}
use Rattle.satp_base.specs.Format.{IsPayload}
use Rattle.satp_keeper.specs.Books.{ledger_payloads}
use Rattle.satp_base.specs.Calls.{FailsAmong, Makes}
use Rattle.satp_keeper.specs.Founding.{clear_calls, stored_calls}
use Rattle.satp_keeper.proofs.ClearLemmas.{wider}
use Rattle.satp_base.proofs.Made.{fails_more, makes_more}
use Rattle.satp_keeper.proofs.FoundLemmas.{all_fit, few_payloads, fresh_leaves}
use Rattle.satp_keeper.proofs.founding.set_up.Goals as goal

pub size_of-size-requires-clause-few : goal.size_of-size-requires-clause-few
size_of-size-requires-clause-few g c = subst (λ (l : List (List ℕ)). length l ≤ 1 + 16 + 256) (sym c.in-Ok-first_payloads.ensures.list) (few_payloads c.args.kind c.args.genesis.now c.in-Ok-first_payloads.ensures.valid)

pub size_of-size-requires-clause-payloads : goal.size_of-size-requires-clause-payloads
size_of-size-requires-clause-payloads g c = subst (AllByRecursion IsPayload) (sym c.in-Ok-first_payloads.ensures.list) (all_fit c.args.kind c.args.genesis.now)

pub returns-in-Err-open_empty-clause-answers : goal.returns-in-Err-open_empty-clause-answers
returns-in-Err-open_empty-clause-answers g c = wider (ledger_payloads c.args.kind c.args.genesis.now []) (g.D.Device.told c.args.disk.now) (g.D.Device.told c.open_empty.new.disk) c.in-Err-open_empty.fault c.in-Err-open_empty.ensures.answers

pub append_all-requires-clause-payloads : goal.append_all-requires-clause-payloads
append_all-requires-clause-payloads g c = subst (AllByRecursion IsPayload) (sym c.in-Ok-first_payloads.ensures.list) (all_fit c.args.kind c.args.genesis.now)

pub returns-in-Ok-append_all-clause-answers : goal.returns-in-Ok-append_all-clause-answers
returns-in-Ok-append_all-clause-answers g c =
    let old = g.D.Device.told c.args.disk.now in
    let mid = g.D.Device.told c.open_empty.new.disk in
    let new = g.D.Device.told c.append_all.new.disk in
    makes_more clear_calls (stored_calls (ledger_payloads c.args.kind c.args.genesis.now [])) old mid new c.in-Ok-open_empty.ensures.answers (subst (λ (l : List (List ℕ)). Makes (stored_calls l) mid new) c.in-Ok-first_payloads.ensures.list c.in-Ok-append_all.ensures.ok)

pub returns-in-Err-append_all-clause-answers : goal.returns-in-Err-append_all-clause-answers
returns-in-Err-append_all-clause-answers g c =
    let old = g.D.Device.told c.args.disk.now in
    let mid = g.D.Device.told c.open_empty.new.disk in
    let new = g.D.Device.told c.append_all.new.disk in
    fails_more clear_calls (stored_calls (ledger_payloads c.args.kind c.args.genesis.now [])) old mid new c.in-Ok-open_empty.ensures.answers (subst (λ (l : List (List ℕ)). FailsAmong (stored_calls l) mid new) c.in-Ok-first_payloads.ensures.list c.in-Err-append_all.ensures.err)

pub returns-in-Ok-append_all-clause-leaves : goal.returns-in-Ok-append_all-clause-leaves
returns-in-Ok-append_all-clause-leaves g c =
    fresh_leaves c.args.kind c.args.genesis.now c.append_all.new.journal.held.payloads _ (g.C.LedgerCore.book c.in-Ok.core) (g.D.Device.told c.append_all.new.disk) c.in-Ok-first_payloads.ensures.valid c.in-Ok.ensures c.in-Ok-append_all.ensures.appended.4 c.in-Ok-first_payloads.ensures.list
