-- `put_together` meets its contract: piece by piece behind the others.
use mathlib.Core.Path.{◌≡◌, refl, ◌∙◌}
use Prim.Native.Nat.{◌+◌, ◌-◌, ◌<◌}
use native.Mathlib.Omega.{arith}
use lib.ListN.{length, length-set}
use Rattle.join.proofs.HutLaws.{hut_below}
use Rattle.join.proofs.Together.{head_length, fits_one, fits_two, has_space, may_nodes_one, may_nodes_two, may_servers_one, may_servers_two, behind_is, between_is, next_is, together}
use borrow.Author.Rules.{rules}
use Rattle.join.proofs.put_together.Goals as goal
use Rattle.join.proofs.put_together.Goals.{After-put_words-behind, After-put_nodes-middle, After-put_words-next}

-- ---- What the pieces leave: where they end, and the list as long as it was

behind_at : (c : After-put_words-behind) → (c.put_words-behind.result ≡ c.args.one.middle) × (length c.put_words-behind.new.words ≡ length c.args.words.now)
behind_at c =
    (behind_is _ _ c.requires.may_put c.put_words-behind.ensures.put, c.put_words-behind.ensures.put.size ∙ head_length c.args.words.now c.args.one.version (c.args.one.nodes + c.args.two.nodes))

middle_at : (c : After-put_nodes-middle)
    → (c.put_nodes-middle.result ≡ c.args.one.middle + (c.args.two.middle - 2)) × (length c.put_nodes-middle.new.words ≡ length c.args.words.now)
middle_at c =
    let behind = behind_is _ _ c.requires.may_put c.put_words-behind.ensures.put in (
      between_is _ _ c.requires.may_put _ _ behind c.put_nodes-middle.ensures.put,
      c.put_nodes-middle.ensures.put.size ∙ c.put_words-behind.ensures.put.size ∙ head_length c.args.words.now c.args.one.version (c.args.one.nodes + c.args.two.nodes),
    )

room_left : (c : After-put_nodes-middle) → c.put_nodes-middle.result < length c.put_nodes-middle.new.words
room_left c =
    let middle = middle_at c in
    omega (arith, middle.0, middle.1, (fits_one _ _ c.requires.may_put).inner, (fits_two _ _ c.requires.may_put).two, (fits_two _ _ c.requires.may_put).inner, c.requires.may_put.space)

next_size : (c : After-put_words-next) → length c.put_nodes-middle.new.words ≡ length c.args.words.now → length c.put_words-next.new.words ≡ length c.args.words.now
next_size c size = c.put_words-next.ensures.put.size ∙ length-set c.put_nodes-middle.new.words c.put_nodes-middle.result (c.args.one.servers + c.args.two.servers) ∙ size

-- ---- The goals

pub overflow_cast-shift : goal.overflow_cast-shift
overflow_cast-shift c = omega (arith, (fits_one _ _ c.requires.may_put).nodes)

pub invariant_of-shift : goal.invariant_of-shift
invariant_of-shift c = record { small = omega (arith, (fits_one _ _ c.requires.may_put).nodes) }

pub bounds-words-0 : goal.bounds-words-0
bounds-words-0 c =
    let space = has_space _ _ c.requires.may_put in omega (arith, space.0, space.1, space.2)

pub overflow_add-words : goal.overflow_add-words
overflow_add-words c = omega (arith, (fits_one _ _ c.requires.may_put).nodes, (fits_two _ _ c.requires.may_put).nodes)

pub overflow_cast-words : goal.overflow_cast-words
overflow_cast-words c = omega (arith, (fits_one _ _ c.requires.may_put).nodes, (fits_two _ _ c.requires.may_put).nodes)

pub bounds-words-1 : goal.bounds-words-1
bounds-words-1 c =
    let space = has_space _ _ c.requires.may_put in
    let there : 1 < length c.args.words.now = omega (arith, space.0, space.1, space.2) in
    simp length-set (search rules)

pub put_words-behind-requires : goal.put_words-behind-requires
put_words-behind-requires c = record { may_put = may_nodes_one _ _ c.requires.may_put _ (head_length c.args.words.now c.args.one.version _) }

pub put_nodes-middle-requires : goal.put_nodes-middle-requires
put_nodes-middle-requires c =
    let behind = behind_at (goal.at.put_nodes-middle-requires c).After-put_words-behind in
    record {
      may_put = may_nodes_two _ _ c.requires.may_put _ behind.1 behind.0;
      fits = (omega (arith, c.node_width-width.ensures.is.1), hut_below c.requires.may_put.second);
    }

pub overflow_add-words-2 : goal.overflow_add-words-2
overflow_add-words-2 c = omega (arith, (fits_one _ _ c.requires.may_put).servers, (fits_two _ _ c.requires.may_put).servers)

pub overflow_cast-words-2 : goal.overflow_cast-words-2
overflow_cast-words-2 c = omega (arith, (fits_one _ _ c.requires.may_put).servers, (fits_two _ _ c.requires.may_put).servers)

pub bounds-words-middle : goal.bounds-words-middle
bounds-words-middle c = room_left (goal.at.bounds-words-middle c).After-put_nodes-middle

pub put_words-next-requires : goal.put_words-next-requires
put_words-next-requires c =
    let middle = middle_at (goal.at.put_words-next-requires c).After-put_nodes-middle in
    record { may_put = may_servers_one _ _ c.requires.may_put _ (length-set c.put_nodes-middle.new.words c.put_nodes-middle.result _ ∙ middle.1) (omega (arith, middle.0)) }

pub put_servers-requires : goal.put_servers-requires
put_servers-requires c =
    let middle = middle_at (goal.at.put_servers-requires c).After-put_nodes-middle in
    record {
      may_put =
          may_servers_two _ _ c.requires.may_put _ (next_size (goal.at.put_servers-requires c).After-put_words-next middle.1)
          (omega (arith, next_is _ _ c.requires.may_put c.put_words-next.ensures.put, middle.0));
      fits = hut_below c.requires.may_put.second;
    }

pub returns : goal.returns
returns c =
    let space = has_space _ _ c.requires.may_put in
    record {
      writes =
          together _ _ c.requires.may_put c.node_width-width.ensures.is.0 refl refl refl
          c.args.words.now c.put_nodes-middle.new.words c.put_nodes-middle.result (omega (arith, space.0, space.1, space.2)) (room_left (goal.at.returns c).After-put_nodes-middle)
          c.put_words-behind.ensures.put c.put_nodes-middle.ensures.put c.put_words-next.ensures.put c.put_servers.ensures.put;
    }
