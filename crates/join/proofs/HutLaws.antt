-- What is kept of a good table, and what each answer of Join says of the outcome.
use mathlib.Core.Path.{◌≡◌, refl, sym, ap, ap₂, ◌∙◌, subst}
use mathlib.Core.Bool.{Bool, not}
use mathlib.Core.List.{List, ◌∷◌, ◌++◌, append_assoc}
use Prim.Native.Nat.{ℕ, zero, suc, ◌+◌, ◌-◌, ◌*◌, ◌/◌, ◌≤◌, ◌<◌, min}
use Rattle.std.proofs.Common.{Result, Ok, Err}
use native.Mathlib.Omega.{arith}
use lib.ListN.{length, take, drop, length-append}
use lib.Seq.{sets, length-take-le, length-sets}
use borrow.Author.Tests.{eq-eqb, ne_eqb, lt-ltb, le-ltb}
use Rattle.outcomes.specs.Outcome.{accepted, refused, unless}
use Rattle.outcomes.specs.Part.{when_good}
use Rattle.outcomes.proofs.Outcomes.{unless_stop, unless_pass, unless_none}
use Rattle.figures.specs.Figures.{at}
use Rattle.words.specs.Bytes.{words_of}
use Rattle.figures.specs.Bounds.{AllBelow}
use Rattle.words.proofs.Bytes.{take-loaded, length-words_of}
use Rattle.rooms.specs.Part.{Step, good, bad, Good}
use Rattle.rooms.specs.Table.{raised, Room, most_nodes, most_servers, most_cords, most_words, form_of, node_words, room_cords}
use Rattle.rooms.specs.Limits.{checked}
use Rattle.rooms.specs.Words.{table_of, row_words, words_of_node, words_of_server}
use Rattle.rooms.specs.Rows.{NodesFit, ServersFit}
use Rattle.rooms.specs.Walk.{servers_index}
use Rattle.rooms.specs.Told.{told}
use Rattle.rooms.specs.declared.SheetRefusal.{SheetRefusal}
use Rattle.rooms.proofs.Accepted as rooms
use Rattle.rooms.proofs.Counts.{nodes-told, cords-told}
use Rattle.rooms.proofs.Reach.{prefix_decides, length_is, length_small, words_small}
use Rattle.join.specs.Joined.{joined}
use Rattle.join.specs.Outcome.{JoinOutcome, JoinReason, reasons, join_rooms, joining}
use Rattle.join.specs.Pieces.{renumbered, renumbered_every, renumbered_cords}
use Rattle.join.specs.Huts.{hut_of, examined_step, examined, HutOf, Small}
use Rattle.join.specs.declared.Hut.{Hut}
use Rattle.join.specs.declared.JoinRefusal.TheVariants.{First, Second, VersionsDiffer, TooManyNodes, TooManyServers, TooManyCords, TableTooShort}
use Rattle.join.proofs.JoinedRoom.{nodes-joined, servers-joined}
use Rattle.join.proofs.TableWords.{row_append, length_are, nodes-moved, servers-moved}
use Rattle.join.proofs.PieceLaws.{every_length, cords-length}

-- ---- The check of a table

-- A table that is good, with its count of cords.
pub record GoodTable (w : List ℕ) (cords : ℕ) : Type 0 where
  pub room : Room
  pub end : ℕ
  pub is : checked w 0 ≡ good room end
  pub count : cords ≡ room_cords room

pub good_told : (w : List ℕ) {k : Result (ℕ × ℕ) SheetRefusal} {known : ℕ × ℕ} → k ≡ told room_cords (checked w 0) → k ≡ Ok known → GoodTable w known.0
unfolding told
good_told w {k} {known} d e = go (checked w 0) refl d
  where
    go : (s : Step Room) → checked w 0 ≡ s → k ≡ told room_cords s → GoodTable w known.0
    go (good r end) q d = let c : known.0 ≡ room_cords r = (let p : known ≡ (room_cords r, end) = cc in ap (λ (x : ℕ × ℕ). x.0) p) in record { room = r; end = end; is = q; count = c }
    go (bad refusal) q d = absurd (cc)

pub refused_told : (w : List ℕ) {k : Result (ℕ × ℕ) SheetRefusal} {q : SheetRefusal} → k ≡ told room_cords (checked w 0) → k ≡ Err q → Err q ≡ examined w
unfolding told examined_step
refused_told w {k} {q} d e = go (checked w 0) d
  where
    go : (s : Step Room) → k ≡ told room_cords s → Err q ≡ examined_step w s
    go (good r end) d = absurd (cc)
    go (bad p) d = cc

module _ (w : List ℕ) {cords : ℕ} (g : GoodTable w cords) where
  pub good_long : 3 ≤ length w
  good_long = omega (arith, length_is w g.room g.end g.is)

  pub good_examined : {nodes servers cords' middle : ℕ} → NodesFit w nodes → ServersFit w servers → cords' ≡ cords → middle ≡ servers_index w
      → Ok (record { version = at w 0; nodes = nodes; servers = servers; cords = cords'; middle = middle; words = length w }) ≡ examined w
  unfolding examined_step
  good_examined n s c m =
      (λ i. Ok (record {
        version = at w 0;
        nodes = n g.room g.end g.is i;
        servers = s g.room g.end g.is i;
        cords = (c ∙ g.count) i;
        middle = m i;
        words = length w;
      }))
      ∙ sym (ap (examined_step w) g.is)

pub bad_examined : (w : List ℕ) {k : Result Hut SheetRefusal} {q : SheetRefusal} → k ≡ examined w → k ≡ Err q → checked w 0 ≡ bad q
unfolding examined_step
bad_examined w {k} {q} d e = go (checked w 0) refl d
  where
    go : (t : Step Room) → checked w 0 ≡ t → k ≡ examined_step w t → checked w 0 ≡ bad q
    go (good r end) z d = absurd (cc)
    go (bad p) z d = let a : p ≡ q = cc in z ∙ ap bad a

-- The words that are loaded decide.
module _ (bytes list : List ℕ) {count : ℕ} {list' : List ℕ} (n : count ≡ min (length bytes / 4) (length list)) (is : list' ≡ sets list 0 (words_of bytes)) where
  pub loaded-length : count ≡ length (take count list')
  loaded-length = sym (length-take-le count list' (omega (arith, ap length is ∙ length-sets list 0 (words_of bytes))))

  pub loaded-checked : {k : Result (ℕ × ℕ) SheetRefusal} → suc most_words ≤ length list → k ≡ told room_cords (checked (take count list') 0) → k ≡ told room_cords (checked (words_of bytes) 0)
  loaded-checked h e =
      e ∙ ap (λ (w : List ℕ). told room_cords (checked w 0)) (take-loaded (length list) count bytes list list' refl n is)
      ∙ ap (told room_cords) (prefix_decides (words_of bytes) (length list) h)

-- ---- What is kept of a table, read from its words

pub checked_good : (w : List ℕ) {k : Result (ℕ × ℕ) SheetRefusal} {known : ℕ × ℕ} → k ≡ told room_cords (checked w 0) → k ≡ Ok known → Good (checked w 0)
checked_good w d e = let g = good_told w d e in record { value = g.room; next = g.end; is = g.is }

pub checked_bad : (w : List ℕ) {k : Result (ℕ × ℕ) SheetRefusal} {q : SheetRefusal} → k ≡ told room_cords (checked w 0) → k ≡ Err q → checked w 0 ≡ bad q
checked_bad w d e = bad_examined w refl (sym (refused_told w d e))

module _ (w : List ℕ) (g : Good (checked w 0)) where
  abbrev width : ℕ
  width = node_words (form_of (at w 0)).percents

  long : length w ≡ 3 + width * length g.value.nodes + 4 * length g.value.servers + 2 * room_cords g.value
  long = length_is w g.value g.next g.is

  counted : width * at w 1 ≡ width * length g.value.nodes
  counted = ap (λ (n : ℕ). width * n) (nodes-told w refl g.value g.next g.is)

  counts_there : 3 ≤ length w
  counts_there = omega (arith, long)

  pub middle_there : servers_index w < length w
  middle_there = omega (arith, long, counted)

  pub others_there : {servers : ℕ} → ServersFit w servers → servers_index w + 1 + 4 * servers ≤ length w
  others_there fit = omega (arith, long, counted, fit g.value g.next g.is)

  pub hut_read : {version nodes servers middle words : ℕ} → version ≡ at w 0 → NodesFit w nodes → ServersFit w servers → middle ≡ servers_index w → words ≡ length w
      → HutOf w (record { version = version; nodes = nodes; servers = servers; cords = (words - (middle + 1 + 4 * servers)) / 2; middle = middle; words = words })
  hut_read {version} {nodes} {servers} {middle} {words} v n s m l =
      let cords : (words - (middle + 1 + 4 * servers)) / 2 ≡ room_cords g.value
      = ap (λ (x : ℕ). (x - (middle + 1 + 4 * servers)) / 2) l ∙ cords-told w (ap (λ (x : ℕ). x + 1) m) s g.value g.next g.is in
      record {
        room = g.value;
        end = g.next;
        good_table = g.is;
        is = (λ i. record {
          version = v i;
          nodes = n g.value g.next g.is i;
          servers = s g.value g.next g.is i;
          cords = cords i;
          middle = m i;
          words = l i;
        });
      }

  -- A good table has what is kept of it.
  pub good_hut : HutOf w (hut_of w g.value)
  good_hut = record { room = g.value; end = g.next; good_table = g.is; is = refl }

-- A good table that stands in bytes has its first counts there.
pub counts_in : (bytes : List ℕ) → Good (checked (words_of bytes) 0) → 3 ≤ length bytes / 4
counts_in bytes g = omega (arith, length-words_of bytes, counts_there (words_of bytes) g)

-- What a good answer keeps.
pub hut-of : (w : List ℕ) {k : Result Hut SheetRefusal} {hut : Hut} → k ≡ examined w → k ≡ Ok hut → HutOf w hut
unfolding examined_step
hut-of w {k} {hut} d e = go (checked w 0) refl d
  where
    go : (s : Step Room) → checked w 0 ≡ s → k ≡ examined_step w s → HutOf w hut
    go (good r end) q d = let a : hut ≡ hut_of w r = cc in record { room = r; end = end; good_table = q; is = a }
    go (bad refusal) q d = absurd (cc)

pub hut_small : {w : List ℕ} {hut : Hut} → HutOf w hut → Small hut
hut_small {w} {hut} h =
    let r = h.room in
    let ok = rooms.accepted w r h.end h.good_table in
    let long = length_is w r h.end h.good_table in
    let few = length_small w r h.end h.good_table in
    record {
      nodes = omega (arith, ap (λ (x : Hut). x.nodes) h.is, ok.few_nodes);
      servers = omega (arith, ap (λ (x : Hut). x.servers) h.is, ok.few_servers);
      cords = omega (arith, ap (λ (x : Hut). x.cords) h.is, ok.few_cords);
      words = (omega (arith, ap (λ (x : Hut). x.words) h.is, long), omega (arith, ap (λ (x : Hut). x.words) h.is, few));
    }

-- Its words are far below what fits a word.
pub hut_below : {w : List ℕ} {hut : Hut} → HutOf w hut → AllBelow 2147483648 w
hut_below {w} h i = omega (arith, words_small w h.room h.end h.good_table i)

-- ---- The words of the joined room

raised_is : (by v : ℕ) → raised by v ≡ renumbered by 0 v
raised_is by zero = refl
raised_is by (suc m) = omega arith

module _ (f s : List ℕ) (r q : Room) (i j : ℕ) (a : checked f 0 ≡ good r i) (b : checked s 0 ≡ good q j) (same : at f 0 ≡ at s 0) where
  abbrev percents : Bool
  percents = (form_of (at f 0)).percents

  abbrev by : ℕ
  by = length r.nodes

  abbrev nodes_one : List ℕ
  nodes_one = row_words (words_of_node percents) r.nodes

  abbrev nodes_two : List ℕ
  nodes_two = row_words (words_of_node percents) q.nodes

  abbrev servers_one : List ℕ
  servers_one = row_words words_of_server r.servers

  abbrev servers_two : List ℕ
  servers_two = row_words words_of_server q.servers

  pub joined_words : table_of (at f 0) (joined r q)
      ≡ at f 0 ∷ (length r.nodes + length q.nodes) ∷ (nodes_one ++ (renumbered_every (node_words percents - 1) by 0 0 nodes_two
      ++ ((length r.servers + length q.servers) ∷ (servers_one ++ renumbered_cords by 0 0 servers_two))))
  joined_words =
      ap₂ (λ (n : ℕ) (z : List ℕ). at f 0 ∷ n ∷ z) (nodes-joined r q)
      (ap₂ (λ (x y : List ℕ). x ++ y) nodes_row (ap₂ (λ (n : ℕ) (z : List ℕ). n ∷ z) (servers-joined r q) servers_row)
      ∙ append_assoc nodes_one (renumbered_every (node_words percents - 1) by 0 0 nodes_two) _)
    where
      nodes_row : row_words (words_of_node percents) (joined r q).nodes ≡ nodes_one ++ renumbered_every (node_words percents - 1) by 0 0 nodes_two
      nodes_row = row_append (words_of_node percents) r.nodes _ ∙ ap (λ (z : List ℕ). nodes_one ++ z) (nodes-moved by 0 (raised by) (raised_is by) percents q.nodes)

      servers_row : row_words words_of_server (joined r q).servers ≡ servers_one ++ renumbered_cords by 0 0 servers_two
      servers_row = row_append words_of_server r.servers _ ∙ ap (λ (z : List ℕ). servers_one ++ z) (servers-moved by 0 (raised by) (raised_is by) q.servers)

  pub joined_length : length (table_of (at f 0) (joined r q)) ≡ length f + length s - 3
  joined_length =
      let two : length s ≡ 3 + length nodes_two + length servers_two
      = length_are s q j b ∙ ap (λ (v : ℕ). 3 + length (row_words (words_of_node (form_of v).percents) q.nodes) + length servers_two) (sym same) in
      ap length joined_words
      ∙ omega (
        arith,
        length_are f r i a,
        two,
        length-append nodes_one (renumbered_every (node_words percents - 1) by 0 0 nodes_two ++ ((length r.servers + length q.servers) ∷ (servers_one ++ renumbered_cords by 0 0 servers_two))),
        length-append (renumbered_every (node_words percents - 1) by 0 0 nodes_two) ((length r.servers + length q.servers) ∷ (servers_one ++ renumbered_cords by 0 0 servers_two)),
        length-append servers_one (renumbered_cords by 0 0 servers_two),
        every_length (node_words percents - 1) by 0 0 nodes_two,
        cords-length by 0 0 servers_two,
      )

-- ---- The answers

module _ (f s : List ℕ) (space : ℕ) where
  abbrev outcome : JoinOutcome
  outcome = joining f s space

  pub first_bad : {q : SheetRefusal} → checked f 0 ≡ bad q → outcome ≡ refused (First q)
  unfolding joining
  first_bad e = ap (λ (t : Step Room). when_good First t (λ r. when_good Second (checked s 0) (λ q. join_rooms (at f 0) (at s 0) r q space))) e

  module _ {one : Hut} (a : HutOf f one) where
    after_first : outcome ≡ when_good Second (checked s 0) (λ q. join_rooms (at f 0) (at s 0) a.room q space)
    unfolding joining
    after_first = ap (λ (t : Step Room). when_good First t (λ r. when_good Second (checked s 0) (λ q. join_rooms (at f 0) (at s 0) r q space))) a.good_table

    pub second_bad : {q : SheetRefusal} → checked s 0 ≡ bad q → outcome ≡ refused (Second q)
    second_bad e = after_first ∙ ap (λ (t : Step Room). when_good Second t (λ q. join_rooms (at f 0) (at s 0) a.room q space)) e

    module _ {two : Hut} (b : HutOf s two) where
      abbrev table : List ℕ
      table = table_of (at f 0) (joined a.room b.room)

      abbrev why : List JoinReason
      why = reasons (at f 0) (at s 0) a.room b.room space

      pub both_good : outcome ≡ unless why table
      unfolding join_rooms
      both_good = after_first ∙ ap (λ (t : Step Room). when_good Second t (λ q. join_rooms (at f 0) (at s 0) a.room q space)) b.good_table

      version_one : one.version ≡ at f 0
      version_one = ap (λ (h : Hut). h.version) a.is

      version_two : two.version ≡ at s 0
      version_two = ap (λ (h : Hut). h.version) b.is

      pub versions_differ : (one.version ≡ two.version → ⊥) → outcome ≡ refused VersionsDiffer
      versions_differ n = both_good ∙ unless_stop _ _ table (ap not (ne_eqb (at f 0) (at s 0) (λ e. n (version_one ∙ e ∙ sym version_two))))

      module _ (same : one.version ≡ two.version) where
        pub versions_same : at f 0 ≡ at s 0
        versions_same = sym version_one ∙ same ∙ version_two

        nodes_are : one.nodes + two.nodes ≡ length a.room.nodes + length b.room.nodes
        nodes_are = ap₂ ◌+◌ (ap (λ (h : Hut). h.nodes) a.is) (ap (λ (h : Hut). h.nodes) b.is)

        servers_are : one.servers + two.servers ≡ length a.room.servers + length b.room.servers
        servers_are = ap₂ ◌+◌ (ap (λ (h : Hut). h.servers) a.is) (ap (λ (h : Hut). h.servers) b.is)

        cords_are : one.cords + two.cords ≡ room_cords a.room + room_cords b.room
        cords_are = ap₂ ◌+◌ (ap (λ (h : Hut). h.cords) a.is) (ap (λ (h : Hut). h.cords) b.is)

        pub table_long : length table ≡ one.words + two.words - 3
        table_long = joined_length f s a.room b.room a.end b.end a.good_table b.good_table versions_same
            ∙ ap₂ (λ (x y : ℕ). x + y - 3) (sym (ap (λ (h : Hut). h.words) a.is)) (sym (ap (λ (h : Hut). h.words) b.is))

        pass_version : outcome ≡ unless (drop 1 why) table
        pass_version = both_good ∙ unless_pass _ _ table (ap not (eq-eqb (at f 0) (at s 0) versions_same))

        pub too_many-nodes : most_nodes < one.nodes + two.nodes → outcome ≡ refused TooManyNodes
        too_many-nodes h = pass_version ∙ unless_stop _ _ table (lt-ltb most_nodes _ (subst (λ (n : ℕ). most_nodes < n) nodes_are h))

        module _ (few : one.nodes + two.nodes ≤ most_nodes) where
          pass_nodes : outcome ≡ unless (drop 2 why) table
          pass_nodes = pass_version ∙ unless_pass _ _ table (le-ltb most_nodes _ (subst (λ (n : ℕ). n ≤ most_nodes) nodes_are few))

          pub too_many-servers : most_servers < one.servers + two.servers → outcome ≡ refused TooManyServers
          too_many-servers h = pass_nodes ∙ unless_stop _ _ table (lt-ltb most_servers _ (subst (λ (n : ℕ). most_servers < n) servers_are h))

          module _ (few_servers : one.servers + two.servers ≤ most_servers) where
            pass_servers : outcome ≡ unless (drop 3 why) table
            pass_servers = pass_nodes ∙ unless_pass _ _ table (le-ltb most_servers _ (subst (λ (n : ℕ). n ≤ most_servers) servers_are few_servers))

            pub too_many-cords : most_cords < one.cords + two.cords → outcome ≡ refused TooManyCords
            too_many-cords h = pass_servers ∙ unless_stop _ _ table (lt-ltb most_cords _ (subst (λ (n : ℕ). most_cords < n) cords_are h))

            module _ (few_cords : one.cords + two.cords ≤ most_cords) where
              pass_cords : outcome ≡ unless (drop 4 why) table
              pass_cords = pass_servers ∙ unless_pass _ _ table (le-ltb most_cords _ (subst (λ (n : ℕ). n ≤ most_cords) cords_are few_cords))

              pub list_short : space < one.words + two.words - 3 → outcome ≡ refused (TableTooShort (one.words + two.words - 3))
              list_short h = pass_cords ∙ unless_stop _ _ table (lt-ltb space (length table) (omega (arith, table_long))) ∙ ap (λ (n : ℕ). refused (TableTooShort n)) table_long

              pub fits : one.words + two.words - 3 ≤ space → outcome ≡ accepted table
              fits h = pass_cords ∙ unless_pass _ _ table (le-ltb space (length table) (omega (arith, table_long))) ∙ unless_none table
