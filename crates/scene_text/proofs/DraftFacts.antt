-- What one more line does to the lines so far.
use Rattle.std.proofs.Common.{◌≡◌, Bool, true, false, List, [], ◌∷◌, ◌++◌, map, ap, sym, ◌∙◌, append_assoc}
use Rattle.std.specs.List.{flat_map}
use Rattle.std.proofs.lemmas.List.{append-nil, map-append}
use Rattle.std.proofs.lemmas.Grind.{flat_map-append}
use Rattle.cs_policy.specs.declared.call.Call.{Call}
use Rattle.scene_text.specs.declared.head.Head.{Head}
use Rattle.scene_text.specs.declared.line.Line.{Line}
use Rattle.scene_text.specs.declared.line.Line.TheVariants as line
use Rattle.scene_text.specs.Scenes.{lines_in, script_lines}
use Rattle.scene_text.specs.Drafts.{opened}

-- a header line where there are no scripts
pub head_added : (head : List Head) (h : Head) (done : List (List Call)) (open' : List Call) (begun : Bool) → done ≡ [] → begun ≡ false
    → lines_in (head ++ h ∷ []) (done ++ opened begun open') ≡ lines_in head (done ++ opened begun open') ++ line.Head h ∷ []
head_added head h done open' begun none before =
    let bare : (more : List Head) → lines_in more (done ++ opened begun open') ≡ map (λ x. line.Head x) more =
    λ more. (λ i. lines_in more (none i ++ opened (before i) open')) ∙ append-nil (map (λ x. line.Head x) more) in
    bare (head ++ h ∷ []) ∙ map-append (λ x. line.Head x) head (h ∷ []) ∙ ap (λ (front : List Line). front ++ line.Head h ∷ []) (sym (bare head))

-- scripts, and one more behind them
more_scripts : (head : List Head) (scripts more : List (List Call)) → lines_in head (scripts ++ more) ≡ lines_in head scripts ++ flat_map script_lines more
more_scripts head scripts more =
    ap (λ (rest : List Line). map (λ x. line.Head x) head ++ rest) (flat_map-append script_lines scripts more)
    ∙ sym (append_assoc (map (λ x. line.Head x) head) (flat_map script_lines scripts) (flat_map script_lines more))

-- the first script begins
pub script_begun : (head : List Head) (done : List (List Call)) (open' : List Call) (begun : Bool) → done ≡ [] → open' ≡ [] → begun ≡ false
    → lines_in head (done ++ opened true open') ≡ lines_in head (done ++ opened begun open') ++ line.Script ∷ []
script_begun head done open' begun none no_calls before =
    ap (λ (calls : List Call). lines_in head (done ++ calls ∷ [])) no_calls ∙ more_scripts head done ([] ∷ [])
    ∙ ap (λ (scripts : List (List Call)). lines_in head scripts ++ line.Script ∷ []) (sym (append-nil done) ∙ (λ i. done ++ opened (sym before i) open'))

-- the next script begins
pub script_added : (head : List Head) (done : List (List Call)) (open' fresh : List Call) (begun : Bool) → fresh ≡ [] → begun ≡ true
    → lines_in head ((done ++ open' ∷ []) ++ opened true fresh) ≡ lines_in head (done ++ opened begun open') ++ line.Script ∷ []
script_added head done open' fresh begun no_calls behind =
    ap (λ (calls : List Call). lines_in head ((done ++ open' ∷ []) ++ calls ∷ [])) no_calls ∙ more_scripts head (done ++ open' ∷ []) ([] ∷ [])
    ∙ (λ i. lines_in head (done ++ opened (sym behind i) open') ++ line.Script ∷ [])

-- a call of the last script
pub call_added : (head : List Head) (done : List (List Call)) (open' : List Call) (c : Call) (begun : Bool) → begun ≡ true
    → lines_in head (done ++ opened begun (open' ++ c ∷ [])) ≡ lines_in head (done ++ opened begun open') ++ line.Call c ∷ []
call_added head done open' c begun behind =
    let one : (calls : List Call) → lines_in head (done ++ opened begun calls) ≡ lines_in head done ++ (line.Script ∷ map (λ x. line.Call x) calls) =
    λ calls. (λ i. lines_in head (done ++ opened (behind i) calls)) ∙ more_scripts head done (calls ∷ []) ∙ ap (λ (rest : List Line). lines_in head done ++ (line.Script ∷ rest)) (append-nil (map (λ x. line.Call x) calls)) in
    one (open' ++ c ∷ []) ∙ ap (λ (rest : List Line). lines_in head done ++ (line.Script ∷ rest)) (map-append (λ x. line.Call x) open' (c ∷ []))
    ∙ sym (append_assoc (lines_in head done) (line.Script ∷ map (λ x. line.Call x) open') (line.Call c ∷ []))
    ∙ ap (λ (front : List Line). front ++ line.Call c ∷ []) (sym (one open'))

-- no script is open
pub no_more : (done : List (List Call)) (open' : List Call) (begun : Bool) → begun ≡ false → done ≡ done ++ opened begun open'
no_more done open' begun before = sym (append-nil done) ∙ (λ i. done ++ opened (sym before i) open')
