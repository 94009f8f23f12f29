-- The promises of `part`, each proved under its name.
use mathlib.Core.Path.{◌≡◌, refl, sym, ap, ap₂, ◌∙◌, subst}
use mathlib.Core.Bool.{Bool, true, false, not, ◌&&◌, true≢false}
use mathlib.Core.List.{List, [], ◌∷◌, ◌++◌, map}
use mathlib.Core.Logic.{inl, inr}
use Prim.Native.Nat.{ℕ, zero, suc, ◌+◌, ◌-◌, ◌≤◌, ◌<◌}
use native.Mathlib.Nat.{le_refl}
use native.Mathlib.Omega.{arith}
use lib.ListN.{length, take, drop, length-drop, length-map, length-append, take-append-drop}
use lib.Seq.{length-take-le, get_or-take, get_or-drop, take-append_seam, drop-append_seam}
use lib.Dec.{leb, ltb}
use borrow.Author.Tests.{ltb-true, ltb-false, le-ltb, leb-true}
use Rattle.outcomes.specs.Outcome.{accepted, unless}
use Rattle.outcomes.proofs.Outcomes.{accepted_is, unless-back, unless_is}
use Rattle.figures.specs.Figures.{at}
use Rattle.rooms.specs.Part.{good, within}
use Rattle.rooms.specs.Table.{raised, Node, Cord, Room, form_of, cord_count, room_cords}
use Rattle.rooms.specs.Limits.{checked}
use Rattle.rooms.specs.Words.{table_of}
use Rattle.rooms.specs.Cords.{server_at}
use Rattle.rooms.proofs.All.{All, all_at, all_from}
use Rattle.rooms.proofs.Accepted.{CordAccepted, ServerAccepted, Accepted}
use Rattle.rooms.proofs.Accepted as rooms
use Rattle.rooms.proofs.Whole.{checked_is}
use Rattle.rooms.proofs.Tables.{table_fits}
use Rattle.rooms.proofs.Reach.{next_is_length}
use Rattle.deals.specs.Plan.{Plan, plan_of, first_too_large, plan_room, plan}
use Rattle.deals.specs.declared.Lengths.{Lengths}
use Rattle.deals.proofs.Plans.{plan_good_table, plan_room_accepted}
use Rattle.join.specs.Joined.{raised_node, raised_cord, raised_server, joined, joined_plan}
use Rattle.join.specs.Outcome.{joining}
use Rattle.join.specs.Promises.{AcceptedJoin, Ample}
use Rattle.join.specs.Huts.{hut_of, HutOf}
use Rattle.join.proofs.JoinedRoom.{nodes-joined, servers-joined, cords-count}
use Rattle.join.proofs.TableWords.{words_are}
use Rattle.join.proofs.HutLaws.{both_good, table_long, fits}
use Rattle.join.proofs.Demands.{first_in_first, first_in_second, same_count, DemandsFit, accepted_demands, ample_told}
use Rattle.join.proofs.Promises.{join_gives_room, join_plans_both}
use Rattle.part.specs.Parted.{front, back, Behind, cord_of, Uncrossed}
use Rattle.part.specs.Crossing.{crossing}
use Rattle.part.specs.Outcome.{Parts, parts_of, reasons}
use Rattle.part.specs.Promises.{PartsOfJoined, JoinedParts, Cut, GoodParts, PartsAreGood, AcceptedPart, PartGivesParts, PartsJoined, PartPlansBoth, PlansParted, PlanOfParts}
use Rattle.part.proofs.PartLaws.{BackWhole, parted_front, parted_back, joined_again}
use Rattle.part.proofs.PartTables.{FrontCords, BackCords, front-checked, back-checked}
use Rattle.part.proofs.OutcomeLaws.{table_good, both_fit}
use Rattle.part.proofs.Uncross.{behind_number, Same, SameSide, none_crossing, uncrossed}

pub joined_parts : JoinedParts
joined_parts r q same = record { first = parted_front r q same; second = parted_back r q same }

module _ (n s : ℕ) (r : Room) (u : Uncrossed n s r) where
  -- The facts of each by place, along the rows.
  nodes-behind : All (λ (x : Node). Behind n x.parent) (drop n r.nodes)
  nodes-behind = all_from _ (drop n r.nodes) (record { parent = 0; rating = 0; percent = 0 }) (λ i h.
      subst (λ (x : Node). Behind n x.parent) (sym (get_or-drop n r.nodes i _)) (u.parents (n + i) (omega arith) (omega (arith, length-drop n r.nodes))))

  servers-behind : All (BackCords n) (drop s r.servers)
  servers-behind = all_from (BackCords n) (drop s r.servers) (record { rank = 0; least = 0; greatest = 0; cords = [] }) (λ i h.
      subst (BackCords n) (sym (get_or-drop s r.servers i _))
      (all_from (λ (c : Cord). Behind n c.node) _ _ (λ k l. inr (u.behind (s + i) k (omega arith) (omega (arith, length-drop s r.servers)) l))))

  servers-before : s ≤ length r.servers → All (FrontCords n) (take s r.servers)
  servers-before h = all_from (FrontCords n) (take s r.servers) (record { rank = 0; least = 0; greatest = 0; cords = [] }) (λ i l.
      let less : i < s = omega (arith, length-take-le s r.servers h) in
      subst (FrontCords n) (sym (get_or-take s r.servers i _ less)) (all_from (λ (c : Cord). c.node ≤ n) _ _ (λ k m. u.before i k less m)))

  whole_behind : BackWhole n s r
  whole_behind = record { nodes = nodes-behind; servers = servers-behind }

pub parts_are_good : PartsAreGood
parts_are_good w n s cut =
    let r = cut.room in
    let fits = table_fits w r cut.end (checked_is w r cut.end cut.is_room).0 in
    let ok = rooms.accepted w r cut.end cut.is_room in
    let behind = whole_behind n s r cut.uncrossed in
    let before = servers-before n s r cut.uncrossed cut.within in
    let one = front-checked (at w 0) n s r fits ok cut.some cut.others cut.within behind before in
    let two = back-checked (at w 0) n s r fits ok cut.some cut.others cut.within behind before in
    record {
      first = one ∙ ap (good (front n s r)) (next_is_length _ (front n s r) _ one);
      second = two ∙ ap (good (back n s r)) (next_is_length _ (back n s r) _ two);
      again = joined_again n s r (omega (arith, cut.others)) behind;
    }

-- ---- The operation

-- What each gives, and what is made of each has.
all_so : {A : Type 0} (P Q : A → Type 0) → ((x : A) → P x → Q x) → (l : List A) → All P l → All Q l
unfolding All
all_so P Q h [] f = tt
all_so P Q h (x ∷ l) f = (h x f.0, all_so P Q h l f.1)

all_mapped : {A B : Type 0} (Q : B → Type 0) (g : A → B) → ((x : A) → Q (g x)) → (l : List A) → All Q (map g l)
unfolding All
all_mapped Q g h [] = tt
all_mapped Q g h (x ∷ l) = (h x, all_mapped Q g h l)

not_false : (t : Bool) → not t ≡ false → t ≡ true
not_false true e = refl
not_false false e = sym e

within-nodes : (n count : ℕ) → within 1 (count - 1) n ≡ true → (1 ≤ n) × (n < count)
within-nodes n count e = go (leb 1 n) (leb n (count - 1)) refl refl e
  where
    go : (a b : Bool) → leb 1 n ≡ a → leb n (count - 1) ≡ b → a && b ≡ true → (1 ≤ n) × (n < count)
    go true true p q d = (leb-true 1 n p, omega (arith, leb-true 1 n p, leb-true n (count - 1) q))
    go true false p q d = absurd (true≢false (sym d))
    go false b p q d = absurd (true≢false (sym d))

module _ (p : AcceptedPart) where
  abbrev w : List ℕ
  w = p.table

  abbrev room : Room
  room = p.room

  abbrev version : ℕ
  version = at w 0

  abbrev hut : HutOf w (hut_of w room)
  hut = record { room = room; end = p.end; good_table = p.is_room; is = refl }

  abbrev given : Parts
  given = parts_of version p.nodes p.servers room

  -- No reason to refuse held.
  told : unless (reasons version room p.nodes p.servers p.first_entries p.second_entries) given ≡ accepted p.parts
  told = sym (table_good w p.nodes p.servers p.first_entries p.second_entries hut) ∙ p.is_parts

  words : p.parts ≡ given
  words = unless_is _ given p.parts told

  -- The checks that were passed.
  checks : (within 1 (length room.nodes - 1) p.nodes ≡ true) × (p.servers ≤ length room.servers) × (crossing version p.nodes p.servers room ≡ 0)
  checks =
      let nodes = unless-back _ _ given told in
      let servers = unless-back _ _ given nodes.1 in
      let links = unless-back _ _ given servers.1 in
      (not_false _ nodes.0, ltb-false _ _ servers.0, same_count _ _ links.0)

  range : (1 ≤ p.nodes) × (p.nodes < length room.nodes)
  range = within-nodes p.nodes (length room.nodes) checks.0

  ok : Accepted room
  ok = rooms.accepted w room p.end p.is_room

  hangs : (v k : ℕ) → v < length room.servers → k < cord_count (server_at room v) → 1 ≤ (cord_of room v k).node
  hangs v k h l =
      let s = all_at (ServerAccepted room.scale (length room.nodes)) room.servers ok.servers v _ h in
      (all_at (CordAccepted room.scale (length room.nodes)) (server_at room v).cords s.cords k _ l).node_from

  abbrev cut : Cut w p.nodes p.servers
  cut = record {
    room = room;
    end = p.end;
    is_room = p.is_room;
    some = range.0;
    others = range.1;
    within = checks.1;
    uncrossed = uncrossed version p.nodes p.servers room checks.1 checks.2 hangs;
  }

  both : GoodParts w p.nodes p.servers cut
  both = parts_are_good w p.nodes p.servers cut

  abbrev one : List ℕ
  one = given.first

  abbrev two : List ℕ
  two = given.second

  abbrev front_room : Room
  front_room = front p.nodes p.servers room

  abbrev back_room : Room
  back_room = back p.nodes p.servers room

  -- The parts joined.
  joins : (entries : ℕ) → length w ≤ entries → joining one two entries ≡ accepted w
  joins entries h =
      let a : HutOf one (hut_of one front_room) = record { room = front_room; end = length one; good_table = both.first; is = refl } in
      let b : HutOf two (hut_of two back_room) = record { room = back_room; end = length two; good_table = both.second; is = refl } in
      let whole : table_of version (joined front_room back_room) ≡ w = ap (table_of version) both.again ∙ sym (words_are w room p.end p.is_room) in
      let nodes = ap (λ (x : Room). length x.nodes) (sym both.again) ∙ nodes-joined front_room back_room in
      let servers = ap (λ (x : Room). length x.servers) (sym both.again) ∙ servers-joined front_room back_room in
      let cords = ap room_cords (sym both.again) ∙ cords-count front_room back_room in
      fits one two entries a b refl (omega (arith, ok.few_nodes)) (omega (arith, ok.few_servers)) (omega (arith, ok.few_cords))
      (omega (arith, ap length whole, table_long one two entries a b refl)) ∙ ap accepted whole

  -- Join accepts the parts.
  abbrev joint : AcceptedJoin
  joint = record {
    first = one;
    second = two;
    entries = length w;
    table = w;
    is_table = joins (length w) (le_refl (length w));
    one = front_room;
    one_end = length one;
    is_one = both.first;
    two = back_room;
    two_end = length two;
    is_two = both.second;
  }

pub part_gives_parts : PartGivesParts
part_gives_parts p = record {
  words = words p;
  uncrossed = (cut p).uncrossed;
  first = subst (λ (x : Parts). checked x.first 0 ≡ good (front_room p) (length x.first)) (sym (words p)) (both p).first;
  second = subst (λ (x : Parts). checked x.second 0 ≡ good (back_room p) (length x.second)) (sym (words p)) (both p).second;
  again = λ entries h. ap (λ (x : Parts). joining x.first x.second entries) (words p) ∙ joins p entries h;
}

pub part_plans_both : PartPlansBoth
part_plans_both p d e ours theirs lengths q t a b long =
    (join_plans_both (joint p)).planned d e ours theirs lengths q t
    (ap (λ (x : Parts). plan x.first d ours) (sym (words p)) ∙ a) (ap (λ (x : Parts). plan x.second e theirs) (sym (words p)) ∙ b)
    (subst (λ (x : Room). Ample x lengths) (sym (both p).again) long)
    ∙ ap (λ (n : ℕ). accepted (joined_plan n q t)) (length-take-le p.nodes p.room.nodes (omega (arith, (range p).1)))

-- ---- The demands of each part

module _ (d e : List ℕ) (h : length (d ++ e) ≤ first_too_large (d ++ e)) where
  -- Where none of both is too large, none of either is.
  none_first : length d ≤ first_too_large d
  none_first = go (ltb (first_too_large d) (length d)) refl
    where
      go : (t : Bool) → ltb (first_too_large d) (length d) ≡ t → length d ≤ first_too_large d
      go true q = let less = ltb-true _ _ q in omega (arith, first_in_first _ d e less, less, h, length-append d e)
      go false q = ltb-false _ _ q

  none_second : length e ≤ first_too_large e
  none_second = omega (arith, first_in_second _ d e none_first, h, length-append d e)

module _ (p : AcceptedPart) (demands : List ℕ) (lengths ours theirs : Lengths) (whole : Plan) (is : plan p.table demands lengths ≡ accepted whole) where
  abbrev d : List ℕ
  d = take p.servers demands

  abbrev e : List ℕ
  e = drop p.servers demands

  of_room : plan_room p.room demands lengths ≡ accepted whole
  of_room = sym (plan_good_table p.table demands lengths p.room p.end p.is_room) ∙ is

  fit : DemandsFit p.room demands lengths
  fit = accepted_demands p.room demands lengths of_room

  none : length (d ++ e) ≤ first_too_large (d ++ e)
  none = subst (λ (x : List ℕ). length x ≤ first_too_large x) (sym (take-append-drop p.servers demands)) fit.none

  fit_first : DemandsFit (front_room p) d ours
  fit_first = record {
    count = length-take-le p.servers demands (omega (arith, fit.count, (checks p).1)) ∙ sym (length-take-le p.servers p.room.servers (checks p).1);
    none = none_first d e none;
  }

  fit_second : DemandsFit (back_room p) e theirs
  fit_second = record {
    count = length-drop p.servers demands ∙ ap (λ (k : ℕ). k - p.servers) fit.count
        ∙ sym (length-drop p.servers p.room.servers) ∙ sym (length-map (drop p.servers p.room.servers) _);
    none = none_second d e none;
  }

  plan_first : Ample (front_room p) ours → plan p.parts.first d ours ≡ accepted (plan_of (front_room p) d)
  plan_first long = plan_good_table p.parts.first d ours (front_room p) _ (part_gives_parts p).first ∙ ample_told (front_room p) d ours fit_first long

  plan_second : Ample (back_room p) theirs → plan p.parts.second e theirs ≡ accepted (plan_of (back_room p) e)
  plan_second long = plan_good_table p.parts.second e theirs (back_room p) _ (part_gives_parts p).second ∙ ample_told (back_room p) e theirs fit_second long

  -- The lists of the whole were long enough.
  ample : Ample p.room lengths
  ample list = ((plan_room_accepted p.room demands lengths whole of_room).fits list).within

  plans_parted : Ample (front_room p) ours → Ample (back_room p) theirs → PlansParted p demands ours theirs whole
  plans_parted long wide =
      let one = plan_first long in
      let two = plan_second wide in
      let again = part_plans_both p d e ours theirs lengths (plan_of (front_room p) d) (plan_of (back_room p) e) one two ample in
      record {
        first = plan_of (front_room p) d;
        second = plan_of (back_room p) e;
        is_first = one;
        is_second = two;
        is_whole = accepted_is (sym is ∙ ap (λ (x : List ℕ). plan p.table x lengths) (sym (take-append-drop p.servers demands)) ∙ again);
      }

pub plan_of_parts : PlanOfParts
plan_of_parts = plans_parted

-- ---- A joined table

module _ (j : AcceptedJoin) where
  abbrev r : Room
  r = j.one

  abbrev q : Room
  q = j.two

  abbrev n : ℕ
  n = length r.nodes

  abbrev s : ℕ
  s = length r.servers

  ours : Accepted r
  ours = rooms.accepted j.first r j.one_end j.is_one

  theirs : Accepted q
  theirs = rooms.accepted j.second q j.two_end j.is_two

  -- Both are of one version, and so of one scale.
  versions : at j.first 0 ≡ at j.second 0
  versions =
      let a : HutOf j.first (hut_of j.first r) = record { room = r; end = j.one_end; good_table = j.is_one; is = refl } in
      let b : HutOf j.second (hut_of j.second q) = record { room = q; end = j.two_end; good_table = j.is_two; is = refl } in
      same_count _ _ (unless-back _ _ _ (sym (both_good j.first j.second j.entries a b) ∙ j.is_table)).0

  same_scale : q.scale ≡ r.scale
  same_scale =
      (table_fits j.second q j.two_end (checked_is j.second q j.two_end j.is_two).0).scaled
      ∙ ap (λ (v : ℕ). (form_of v).scale) (sym versions)
      ∙ sym (table_fits j.first r j.one_end (checked_is j.first r j.one_end j.is_one).0).scaled

  abbrev whole : Room
  whole = joined r q

  table_version : at j.table 0 ≡ at j.first 0
  table_version = ap (λ (l : List ℕ). at l 0) (join_gives_room j).words

  parted : PartsOfJoined r q
  parted = joined_parts r q same_scale

  first_words : table_of (at j.table 0) (front n s whole) ≡ j.first
  first_words = ap₂ table_of table_version parted.first ∙ sym (words_are j.first r j.one_end j.is_one)

  second_words : table_of (at j.table 0) (back n s whole) ≡ j.second
  second_words = ap₂ table_of (table_version ∙ versions) parted.second ∙ sym (words_are j.second q j.two_end j.is_two)

  -- No link of the joined room crosses the seam.
  raised_behind : (v : ℕ) → Behind n (raised n v)
  raised_behind zero = inl refl
  raised_behind (suc m) = inr (omega arith)

  nodes_clear : All (λ (x : Node). Behind n x.parent) (drop n whole.nodes)
  nodes_clear = subst (All (λ (x : Node). Behind n x.parent)) (sym (drop-append_seam r.nodes (map (raised_node n) q.nodes)))
      (all_mapped (λ (x : Node). Behind n x.parent) (raised_node n) (λ x. raised_behind x.parent) q.nodes)

  before_clear : All (SameSide n true) (take s whole.servers)
  before_clear = subst (All (SameSide n true)) (sym (take-append_seam r.servers (map (raised_server n) q.servers)))
      (all_so (ServerAccepted r.scale n) (SameSide n true) (λ x a. all_so (CordAccepted r.scale n) (Same n true) (λ c k. le-ltb n c.node k.node_to) x.cords a.cords) r.servers ours.servers)

  behind_clear : All (SameSide n false) (drop s whole.servers)
  behind_clear = subst (All (SameSide n false)) (sym (drop-append_seam r.servers (map (raised_server n) q.servers)))
      (all_mapped (SameSide n false) (raised_server n)
      (λ x. all_mapped (Same n false) (raised_cord n) (λ c. behind_number n (raised n c.node) (raised_behind c.node)) x.cords) q.servers)

  abbrev joined_hut : HutOf j.table (hut_of j.table whole)
  joined_hut = record { room = whole; end = length j.table; good_table = (join_gives_room j).checks; is = refl }

pub parts_joined : PartsJoined
parts_joined j first second a b =
    both_fit j.table (n j) (s j) first second (joined_hut j) (ours j).some_nodes (omega (arith, nodes-joined (r j) (q j), (theirs j).some_nodes))
    (omega (arith, servers-joined (r j) (q j)))
    (none_crossing (at j.table 0) (n j) (s j) (whole j) (nodes_clear j) (before_clear j) (behind_clear j))
    (sym (ap length (first_words j))) a (sym (ap length (second_words j))) b
    ∙ (λ i. accepted (record { first = first_words j i; second = second_words j i }))
