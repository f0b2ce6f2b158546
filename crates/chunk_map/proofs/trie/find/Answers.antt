use Rattle.std.proofs.Common.{◌≡◌, ◌+◌, ◌-◌, ◌*◌, ◌/◌, ◌%◌, ◌<◌, length, subst, arith}
use Rattle.chunk_map.specs.Trie.{Finds, node_at, digit_in}
use Rattle.chunk_map.proofs.Paths.{finds_next, finds_place}
use Rattle.chunk_map.proofs.trie.find.Goals as goal

pub loop-link-init : goal.loop-link-init
loop-link-init c = record {
  node = c.requires.first.node;
  place = c.requires.first.place;
  path = λ place within is. subst (λ key. Finds c.args.nodes.now c.args.keys.now key place c.args.root) is (c.requires.found place within);
}

pub loop-link-preserved : goal.loop-link-preserved
loop-link-preserved c =
    let nodes = c.args.nodes.now in
    let link = c.loop-link.link in
    let within : link / 2 < length nodes = c.loop-link.invariant.node c.loop-link-test.true in
    let digit = digit_in (node_at nodes (link / 2)) c.args.key in
    record {
      node = (c.requires.forest (link / 2) within).within digit (omega arith);
      place = (c.requires.slots (link / 2) within digit (omega arith)).place;
      path = λ place below is. finds_next nodes c.args.keys.now c.args.key place link c.loop-link-test.true (c.loop-link.invariant.path place below is);
    }

pub returns-then-link-eq0 : goal.returns-then-link-eq0
returns-then-link-eq0 c = λ place below is.
    let even : c.loop-link.link % 2 ≡ 0 = omega arith in
    let e : c.loop-link.link ≡ 2 * place + 2 = finds_place c.args.nodes.now c.args.keys.now c.args.key place c.loop-link.link even (c.loop-link.invariant.path place below is) in
    absurd (omega arith)

pub returns-else-keys-place : goal.returns-else-keys-place
returns-else-keys-place c = λ place below is.
    let even : c.loop-link.link % 2 ≡ 0 = omega arith in
    let e : c.loop-link.link ≡ 2 * place + 2 = finds_place c.args.nodes.now c.args.keys.now c.args.key place c.loop-link.link even (c.loop-link.invariant.path place below is) in
    let here : c.loop-link.link / 2 - 1 ≡ place = omega arith in
    c.if-keys-place.false (rw here is)
