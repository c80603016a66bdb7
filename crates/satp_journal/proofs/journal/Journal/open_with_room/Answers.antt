use Rattle.std.proofs.Common.{ℕ, List, subst, inr, sym}
use Rattle.satp_base.specs.Calls.{Makes, FailsAmong}
use Rattle.satp_journal.specs.State.{Held, gate_of}
use Rattle.satp_journal.specs.Scanned.{IsScanned}
use Rattle.satp_journal.specs.Opening.{Finds, mend_calls, open_calls}
use Rattle.satp_journal.proofs.OpenLemmas.{read_stops, read_fails_stops, mended_stops, mend_fails_stops, open_rests, rest_fits, found_is, mended_is, mend_failed}
use Rattle.satp_journal.proofs.journal.Journal.open_with_room.Goals as goal

pub returns-in-Err-clause-stops : goal.returns-in-Err-clause-stops
returns-in-Err-clause-stops g c = read_fails_stops c.args.area (g.D.Device.told c.args.disk.now) (g.D.Device.told c.read_synced.new.disk) c.in-Err.fault (g.D.Device.keeps_model c.read_synced.new.disk) c.in-Err.ensures.err

pub returns-in-Err-scan_with_room-clause-stops : goal.returns-in-Err-scan_with_room-clause-stops
returns-in-Err-scan_with_room-clause-stops g c = read_stops c.args.area (g.D.Device.told c.args.disk.now) (g.D.Device.told c.read_synced.new.disk) (g.D.Device.keeps_model c.read_synced.new.disk) c.in-Ok.ensures.ok.1

pub returns-in-Ok-mend-clause-answers : goal.returns-in-Ok-mend-clause-answers
returns-in-Ok-mend-clause-answers g c =
    let old = g.D.Device.told c.args.disk.now in
    let mid = g.D.Device.told c.read_synced.new.disk in
    let new = g.D.Device.told c.mend.new.disk in
    let image = c.in-Ok.image.items in
    let found = c.in-Ok-scan_with_room.found in
    let read = c.in-Ok.ensures.ok in
    let scanned = subst (λ (l : List ℕ). IsScanned l found) c.deref.ensures.value c.in-Ok-scan_with_room.ensures.list in
    let is = subst (λ (l : List ℕ). Makes (mend_calls c.args.area l found.gate) mid new) c.deref-2.ensures.value c.in-Ok-mend.ensures.ok in
    subst (λ (h : Held). (x : List ℕ) × Finds c.args.area old h x × Makes (open_calls c.args.area x (gate_of h)) old new) (sym c.of.ensures.held)
    (image, found_is c.args.area image found old mid read.0 read.1 scanned, mended_is c.args.area image found old mid read.0 read.1 scanned new is)

pub returns-in-Ok-mend-clause-stops : goal.returns-in-Ok-mend-clause-stops
returns-in-Ok-mend-clause-stops g c =
    let r = returns-in-Ok-mend-clause-answers g c in
    mended_stops c.args.area c.of.result.held r.0 (g.D.Device.told c.args.disk.now) (g.D.Device.told c.mend.new.disk) (g.D.Device.keeps_model c.mend.new.disk) r.1 r.2

pub returns-in-Ok-mend-clause-rests : goal.returns-in-Ok-mend-clause-rests
returns-in-Ok-mend-clause-rests g c =
    let r = returns-in-Ok-mend-clause-answers g c in open_rests c.args.area c.of.result.held r.0 (g.D.Device.told c.args.disk.now) (g.D.Device.told c.mend.new.disk) r.1 r.2

pub returns-in-Ok-mend-clause-fits : goal.returns-in-Ok-mend-clause-fits
returns-in-Ok-mend-clause-fits g c = rest_fits c.of.result.held (g.D.Device.told c.mend.new.disk) (g.D.Device.keeps_model c.mend.new.disk) (returns-in-Ok-mend-clause-rests g c)

pub returns-clause-answers : goal.returns-clause-answers
returns-clause-answers g c =
    let old = g.D.Device.told c.args.disk.now in
    let mid = g.D.Device.told c.read_synced.new.disk in
    let new = g.D.Device.told c.mend.new.disk in
    let image = c.in-Ok.image.items in
    let found = c.in-Ok-scan_with_room.found in
    let read = c.in-Ok.ensures.ok in
    let scanned = subst (λ (l : List ℕ). IsScanned l found) c.deref.ensures.value c.in-Ok-scan_with_room.ensures.list in
    let fails = subst (λ (l : List ℕ). FailsAmong (mend_calls c.args.area l found.gate) mid new) c.deref-2.ensures.value c.in-Err-mend.ensures.err in
    inr (mend_failed c.args.area image found old mid read.0 read.1 scanned new fails)

pub returns-clause-stops : goal.returns-clause-stops
returns-clause-stops g c =
    let old = g.D.Device.told c.args.disk.now in
    let mid = g.D.Device.told c.read_synced.new.disk in
    let new = g.D.Device.told c.mend.new.disk in
    let image = c.in-Ok.image.items in
    let found = c.in-Ok-scan_with_room.found in
    let read = c.in-Ok.ensures.ok in
    let scanned = subst (λ (l : List ℕ). IsScanned l found) c.deref.ensures.value c.in-Ok-scan_with_room.ensures.list in
    let fails = subst (λ (l : List ℕ). FailsAmong (mend_calls c.args.area l found.gate) mid new) c.deref-2.ensures.value c.in-Err-mend.ensures.err in
    mend_fails_stops c.args.area old new (g.D.Device.keeps_model c.mend.new.disk) (mend_failed c.args.area image found old mid read.0 read.1 scanned new fails)
