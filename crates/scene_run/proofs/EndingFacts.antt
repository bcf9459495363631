-- How a run goes by what was read.
use Rattle.std.proofs.Common.{◌≡◌, ℕ, ◌≤◌, List, [], ◌∷◌, ◌++◌, length, map, Option, Some, None, Result, Ok, Err, refl, sym, ap, subst, ◌∙◌, append-nil, arith}
use Rattle.std.specs.Prelude.{unwrap_or}
use Rattle.std.specs.Result.{result_ok}
use Rattle.std.specs.List.{flat_map}
use Rattle.pg_bytes.specs.declared.status.Status.{Status}
use Rattle.pg_bytes.specs.declared.status.Status.TheVariants as status
use Rattle.pg_io.specs.Files.{Told}
use Rattle.cs_policy.specs.declared.call.Call.{Call}
use Rattle.scene_text.specs.declared.head.Head.{Head}
use Rattle.scene_text.specs.declared.line.Line.TheVariants as line
use Rattle.scene_text.specs.declared.line.Line as scene_line
use Rattle.scene_text.specs.declared.whole.Scene.{Scene}
use Rattle.scene_text.specs.Scenes.{script_lines, scene_lines}
use Rattle.scene_text.specs.Texts.{IsScene}
use Rattle.scene_open.specs.declared.open_scene.OpenScene.{OpenScene}
use Rattle.scene_open.specs.Ends.{text_end, scene_end, IsSceneOf, ReadsScene, ReadsSome, OpensTo, Opens, OpensSome}
use Rattle.scene_open.specs.Items.{Item, heads_of, path_of, told_behind, items_told, items_end}
use Rattle.scene_open.specs.Opening.{opening_of, opening_with}
use Rattle.scene_run.specs.Ending.{heads_in, scripts_from, scripts_in, lines_found, Run, unless_ends, run_items, run_over, run_found, run_with, FixesHistory, Prints, OverSome, GoesTo, EndsAt}
use Rattle.pg_report.specs.Journal.{journal}
use Rattle.pg_history.specs.Machine.{Line}
use Rattle.pg_history.specs.Opening.{Opening}
use Rattle.pg_history.specs.Legal.{Legal, calls_in}
use Rattle.pg_digest.specs.Kinds.{Hash}
use Rattle.pg_printed.proofs.OrderFacts.{one_history_of}

-- ---- the header lines and the scripts of a scene's lines

abbrev Begun : Type 0
Begun = List Call × List (List Call)

calls_then : (calls : List Call) (rest : List scene_line.Line) (one : List Call) (others : List (List Call))
    → ◌≡◌ {A = Begun} (scripts_from rest) (one, others) → ◌≡◌ {A = Begun} (scripts_from (map (λ call. line.Call call) calls ++ rest)) (calls ++ one, others)
calls_then [] rest one others is = is
calls_then (c ∷ cs) rest one others is = ap {B = Begun} (λ (x : Begun). (c ∷ x.0, x.1)) (calls_then cs rest one others is)

scripts-are : (scripts : List (List Call)) → ◌≡◌ {A = Begun} (scripts_from (flat_map script_lines scripts)) ([], scripts)
scripts-are [] = refl
scripts-are (calls ∷ scripts) =
    ap {B = Begun} (λ (x : Begun). ([], x.0 ∷ x.1)) (calls_then calls (flat_map script_lines scripts) [] scripts (scripts-are scripts))
    ∙ ap {B = Begun} (λ cs. ([], cs ∷ scripts)) (append-nil calls)

scripts-behind : (heads : List Head) (rest : List scene_line.Line) → ◌≡◌ {A = Begun} (scripts_from (map (λ h. line.Head h) heads ++ rest)) (scripts_from rest)
scripts-behind [] rest = refl
scripts-behind (h ∷ hs) rest = scripts-behind hs rest

no-heads : (calls : List Call) (rest : List scene_line.Line) → heads_in rest ≡ [] → heads_in (map (λ call. line.Call call) calls ++ rest) ≡ []
no-heads [] rest is = is
no-heads (c ∷ cs) rest is = no-heads cs rest is

heads-none : (scripts : List (List Call)) → heads_in (flat_map script_lines scripts) ≡ []
heads-none [] = refl
heads-none (calls ∷ scripts) = no-heads calls (flat_map script_lines scripts) (heads-none scripts)

heads-are : (heads : List Head) (rest : List scene_line.Line) → heads_in rest ≡ [] → heads_in (map (λ h. line.Head h) heads ++ rest) ≡ heads
heads-are [] rest is = is
heads-are (h ∷ hs) rest is = ap (λ xs. h ∷ xs) (heads-are hs rest is)

scene-heads : (scene : Scene) → heads_in (scene_lines scene) ≡ scene.head
scene-heads scene = heads-are scene.head (flat_map script_lines scene.scripts) (heads-none scene.scripts)

scene-scripts : (scene : Scene) → scripts_in (scene_lines scene) ≡ scene.scripts
scene-scripts scene = ap (λ (x : Begun). x.1) (scripts-behind scene.head (flat_map script_lines scene.scripts) ∙ scripts-are scene.scripts)

-- ---- what was found of the scene's file

lines-said : (text : List ℕ) (scene : Scene) → IsScene text scene → lines_found (Some text) ≡ scene_lines scene
lines-said text scene is = ap (λ r. unwrap_or (result_ok r) []) is

passes : (text : List ℕ) → text_end text ≡ None → scene_end (Some text) ≡ None
passes text is = is

-- the header lines that were found
pub heads-found : (found : Option (List ℕ)) (scene : Scene) → IsSceneOf found scene → heads_in (lines_found found) ≡ scene.head
heads-found found scene is =
    ap (λ f. heads_in (lines_found f)) is.read ∙ ap (λ ls. heads_in ls) (lines-said is.text scene is.says) ∙ scene-heads scene

-- a scene that was read goes on by its items
goes-over : (found : Option (List ℕ)) (items : List Item) (scene : Scene) → IsSceneOf found scene → run_over found items ≡ run_items items scene.scripts
goes-over found items scene is =
    ap (λ f. run_over f items) is.read
    ∙ ap (λ e. unless_ends e (run_items items (scripts_in (lines_found (Some is.text))))) (passes is.text is.passes)
    ∙ ap (λ ls. run_items items (scripts_in ls)) (lines-said is.text scene is.says)
    ∙ ap (λ ss. run_items items ss) (scene-scripts scene)

pub goes-on : (told : Told) (found : Option (List ℕ)) (scene : Scene) → IsSceneOf found scene
    → run_found told found ≡ run_items (items_told told scene.head) scene.scripts
goes-on told found scene is =
    goes-over found (items_told told (heads_in (lines_found found))) scene is
    ∙ ap (λ hs. run_items (items_told told hs) scene.scripts) (heads-found found scene is)

-- the end at the scene's file is that of the run
ends-over : (found : Option (List ℕ)) (items : List Item) (s : Status) → scene_end found ≡ Some s → run_over found items ≡ Err s
ends-over found items s is = ap (λ e. unless_ends e (run_items items (scripts_in (lines_found found)))) is

scene-ends-over : (found : Option (List ℕ)) (items : List Item) (s : Status) → ReadsScene found (Err s) → EndsAt (run_over found items) s
scene-ends-over found items status.NoMemory is = tt
scene-ends-over found items status.Done is = ends-over found items _ is
scene-ends-over found items status.NotSealed is = ends-over found items _ is
scene-ends-over found items status.Usage is = ends-over found items _ is
scene-ends-over found items (status.SceneBad line kind) is = ends-over found items _ is
scene-ends-over found items (status.FileFault item) is = ends-over found items _ is
scene-ends-over found items status.SinkFault is = ends-over found items _ is
scene-ends-over found items (status.Limit which number) is = ends-over found items _ is
scene-ends-over found items (status.TrustBad item number arg) is = ends-over found items _ is

pub scene-ends : (told : Told) (found : Option (List ℕ)) (s : Status) → ReadsScene found (Err s) → EndsAt (run_found told found) s
scene-ends told found s is = scene-ends-over found (items_told told (heads_in (lines_found found))) s is

-- ---- its items

heads-told : (told : Told) (heads : List Head) → heads_of (items_told told heads) ≡ heads
heads-told told [] = refl
heads-told told (h ∷ hs) = ap (λ xs. h ∷ xs) (heads-told (told_behind told (path_of h)) hs)

ends-items : (items : List Item) (scripts : List (List Call)) (s : Status) → items_end 1 items ≡ Some s → run_items items scripts ≡ Err s
ends-items items scripts s is = ap (λ e. unless_ends e (Ok (record { opening = opening_of items; scripts = scripts }))) is

items-end : (items : List Item) (scripts : List (List Call)) (s : Status) → Opens items (Err s) → EndsAt (run_items items scripts) s
items-end items scripts status.NoMemory is = tt
items-end items scripts status.Done is = ends-items items scripts _ is
items-end items scripts status.NotSealed is = ends-items items scripts _ is
items-end items scripts status.Usage is = ends-items items scripts _ is
items-end items scripts (status.SceneBad line kind) is = ends-items items scripts _ is
items-end items scripts (status.FileFault item) is = ends-items items scripts _ is
items-end items scripts status.SinkFault is = ends-items items scripts _ is
items-end items scripts (status.Limit which number) is = ends-items items scripts _ is
items-end items scripts (status.TrustBad item number arg) is = ends-items items scripts _ is

pub items-ends : (told : Told) (found : Option (List ℕ)) (scene : Scene) (s : Status) → IsSceneOf found scene
    → Opens (items_told told scene.head) (Err s) → EndsAt (run_found told found) s
items-ends told found scene s is ends =
    subst (λ goes. EndsAt goes s) (sym (goes-on told found scene is)) (items-end (items_told told scene.head) scene.scripts s ends)

-- a run over items that were opened goes from the opening of what they opened to
items-open : (items : List Item) (heads : List Head) (scripts : List (List Call)) (o : OpenScene) → heads_of items ≡ heads → OpensTo items o
    → run_items items scripts ≡ Ok (record { opening = opening_with heads o.files.items o.layouts.items o.trust; scripts = scripts })
items-open items heads scripts o lines opens =
    ap (λ e. unless_ends e (Ok (record { opening = opening_of items; scripts = scripts }))) opens.passes
    ∙ ap (λ op. Ok (record { opening = op; scripts = scripts })) opening-same
  where
    opening-same : opening_of items ≡ opening_with heads o.files.items o.layouts.items o.trust
    opening-same = (λ i. opening_with (lines i) (sym opens.files i) (sym opens.layouts i) (sym opens.trust i))

pub items-go : (told : Told) (heads : List Head) (scripts : List (List Call)) (o : OpenScene) → OpensTo (items_told told heads) o
    → run_items (items_told told heads) scripts ≡ Ok (record { opening = opening_with heads o.files.items o.layouts.items o.trust; scripts = scripts })
items-go told heads scripts o opens = items-open (items_told told heads) heads scripts o (heads-told told heads) opens

-- the same of a scene that was read
pub goes-from : (told : Told) (found : Option (List ℕ)) (scene : Scene) (o : OpenScene) → IsSceneOf found scene → OpensTo (items_told told scene.head) o
    → run_found told found ≡ Ok (run_with scene o)
goes-from told found scene o is opens = goes-on told found scene is ∙ items-go told scene.head scene.scripts o opens

-- ---- whatever the files tell

-- header lines of whose files nothing was found
unread : List Head → List Item
unread [] = []
unread (h ∷ hs) = record { head = h; found = None } ∷ unread hs

heads-unread : (heads : List Head) → heads_of (unread heads) ≡ heads
unfolding unread
heads-unread [] = refl
heads-unread (h ∷ hs) = ap (λ xs. h ∷ xs) (heads-unread hs)

pub scene-some : (s : Status) → ReadsSome (Err s) → OverSome (λ goes. EndsAt goes s)
scene-some s some = record {
  found = some.0;
  items = unread (heads_in (lines_found some.0));
  lines = heads-unread (heads_in (lines_found some.0));
  is = scene-ends-over some.0 (unread (heads_in (lines_found some.0))) s some.1;
}

pub items-some : (found : Option (List ℕ)) (scene : Scene) (s : Status) → IsSceneOf found scene → OpensSome scene.head (Err s) → OverSome (λ goes. EndsAt goes s)
items-some found scene s is some = record {
  found = found;
  items = some.items;
  lines = some.lines ∙ sym (heads-found found scene is);
  is = subst (λ goes. EndsAt goes s) (sym (goes-over found some.items scene is)) (items-end some.items scene.scripts s some.opens);
}

pub opened-some : (found : Option (List ℕ)) (scene : Scene) (o : OpenScene) → IsSceneOf found scene → OpensSome scene.head (Ok o)
    → OverSome (λ goes. goes ≡ Ok (run_with scene o))
opened-some found scene o is some = record {
  found = found;
  items = some.items;
  lines = some.lines ∙ sym (heads-found found scene is);
  is = goes-over found some.items scene is ∙ items-open some.items scene.head scene.scripts o some.lines some.opens;
}

pub map-some : (P Q : Result Run Status → Type 0) → ((goes : Result Run Status) → P goes → Q goes) → OverSome P → OverSome Q
map-some P Q f some = record { found = some.found; items = some.items; lines = some.lines; is = f (run_over some.found some.items) some.is }

-- ---- the journal

pub fixes : (hash : Hash) (run : Run) (history : List Line) (text : List ℕ) → length run.scripts ≤ 8 → Legal hash run.opening run.scripts history
    → text ≡ journal history (calls_in run.scripts) → FixesHistory hash run text history
fixes hash run history text few legal printed = λ other is same.
    one_history_of hash run.opening run.scripts other history (calls_in run.scripts) (calls_in run.scripts) (omega (arith, few)) is legal (sym same ∙ printed)

pub goes-to : (hash : Hash) (gives : Opening → List (List Call) → List Line → Type 0) (goes : Result Run Status) (run : Run) (history : List Line) (text : List ℕ)
    → goes ≡ Ok run → gives run.opening run.scripts history → text ≡ journal history (calls_in run.scripts) → FixesHistory hash run text history
    → GoesTo (Prints hash gives) goes text
goes-to hash gives goes run history text is given printed fixed = record {
  run = run;
  is = is;
  prints = record { history = history; printed = printed; given = given; fixed = fixed };
}
