use Rattle.std.proofs.Common.{◌∙◌, vec_items, arith}
use Rattle.itemset.specs.Sets.{full}
use Rattle.console.proofs.Printing.{lists_long, report_right}
use Rattle.console.proofs.Ran.{ran}
use Rattle.console.proofs.report.list.Goals as goal

pub taken_apart-common-requires : goal.taken_apart-common-requires
taken_apart-common-requires g c =
    let room = c.args.room in
    let run = ran room.places room.idle.0 c.push_reserved.ensures.items c.push_reserved-2.ensures.items (omega (arith, room.long, room.places.ok.0)) room.idle.2 c.in-Ok.ensures.answers_every_call c.requires in
    run.two

pub report-requires : goal.report-requires
report-requires g c =
    let room = c.args.room in
    let run = ran room.places room.idle.0 c.push_reserved.ensures.items c.push_reserved-2.ensures.items (omega (arith, room.long, room.places.ok.0)) room.idle.2 c.in-Ok.ensures.answers_every_call c.requires in
    let m = g.C.Criterion.meaning c.args.criterion in
    let apart = c.taken_apart-common.result in
    let told = run.each apart.0 apart.1 apart.2 c.taken_apart-common.ensures in
    omega (arith, lists_long m (full m.count) (vec_items apart.2) apart.1 told.1, apart.2.ok.0)

pub returns : goal.returns
returns g c =
    let room = c.args.room in
    let run = ran room.places room.idle.0 c.push_reserved.ensures.items c.push_reserved-2.ensures.items (omega (arith, room.long, room.places.ok.0)) room.idle.2 c.in-Ok.ensures.answers_every_call c.requires in
    let m = g.C.Criterion.meaning c.args.criterion in
    let apart = c.taken_apart-common.result in
    let told = run.each apart.0 apart.1 apart.2 c.taken_apart-common.ensures in
    c.report.ensures ∙ report_right m c.count-count.result apart.0 apart.1 (vec_items apart.2) c.count-count.ensures.counts_the_items told.0 told.1
