-- `packet_at` meets its contract: each return is the case of the definition that its tests select, of a copy and of a repeat.
use mathlib.Core.Path.{sym}
use native.Mathlib.Omega.{arith}
use lib.ListN.{get_or}
use Rattle.words.proofs.Laws.{magnitude_plus, magnitude_minus}
use Rattle.read_brun.proofs.Laws.{data_repeat, data_copy, packet_cut, packet_zero, packet_past, packet_short, packet_told}
use Rattle.read_brun.proofs.packet_at.Goals as goal

pub returns-then-body-at-lt1 : goal.returns-then-body-at-lt1
returns-then-body-at-lt1 c = sym (packet_cut _ _ _ (omega arith))

pub returns-then-left-len : goal.returns-then-left-len
returns-then-left-len c =
    let m = magnitude_minus (get_or c.args.body.now c.args.at 0) (omega arith) in
    sym (packet_past _ _ _ (omega arith) (omega arith) (omega arith))

pub returns-then-body-at : goal.returns-then-body-at
returns-then-body-at c =
    let m = magnitude_minus (get_or c.args.body.now c.args.at 0) (omega arith) in
    let d = data_copy (get_or c.args.body.now c.args.at 0) (omega arith) in
    sym (packet_short _ _ _ (omega arith) (omega arith) (omega arith) (omega arith))

pub returns-then-code-ge128 : goal.returns-then-code-ge128
returns-then-code-ge128 c =
    let m = magnitude_minus (get_or c.args.body.now c.args.at 0) (omega arith) in
    let d = data_copy (get_or c.args.body.now c.args.at 0) (omega arith) in
    packet_told c.args.body.now c.args.at c.args.left _ _ (omega arith) (omega arith) (omega arith) (omega arith) (omega arith) (omega arith)

pub returns-then-count-lt1 : goal.returns-then-count-lt1
returns-then-count-lt1 c =
    let m = magnitude_plus (get_or c.args.body.now c.args.at 0) (omega arith) in
    sym (packet_zero _ _ _ (omega arith) (omega arith))

pub returns-then-left-count : goal.returns-then-left-count
returns-then-left-count c =
    let m = magnitude_plus (get_or c.args.body.now c.args.at 0) (omega arith) in
    sym (packet_past _ _ _ (omega arith) (omega arith) (omega arith))

pub returns-then-body-at-lt2 : goal.returns-then-body-at-lt2
returns-then-body-at-lt2 c =
    let m = magnitude_plus (get_or c.args.body.now c.args.at 0) (omega arith) in
    let d = data_repeat (get_or c.args.body.now c.args.at 0) (omega arith) in
    sym (packet_short _ _ _ (omega arith) (omega arith) (omega arith) (omega arith))

pub returns : goal.returns
returns c =
    let m = magnitude_plus (get_or c.args.body.now c.args.at 0) (omega arith) in
    let d = data_repeat (get_or c.args.body.now c.args.at 0) (omega arith) in
    packet_told c.args.body.now c.args.at c.args.left _ _ (omega arith) (omega arith) (omega arith) (omega arith) (omega arith) (omega arith)
