-- How many groups are open where a parenthesis begins another one.
use Rattle.std.proofs.Common.{◌≡◌, ℕ, zero, suc, ◌+◌, Bool, List, [], ◌∷◌, length, take, Option, Some, None, refl, sym, ap, ◌∙◌, subst, slice_get, arith, append-nil, length-take-le}
use Rattle.std.proofs.lemmas.Option.{same_Some, none-some, slice_get_within}
use Rattle.rl_pattern.specs.declared.flags.Flags.{Flags}
use Rattle.rl_pattern.specs.Tree.{Kind, SyntaxNode, Branch, Front}
use Rattle.rl_pattern.specs.Codes.{left, inside}
use Rattle.rl_pattern.specs.Grammar.{At, SpelledAt, Items, outermost}
use Rattle.rl_pattern.specs.Viable.{Begins, Part, part_first, part_next, Open, none_open, one_open, TooDeepAt}
use Rattle.rl_pattern.specs.internal.Machine.{Frame, Last, nothing_yet, Base, Lex, between, line, comment, in_braces, counted, at_slash, in_escape, in_head, set_open, in_class, State, at, settled, InHead, paren, quest, after_p, after_less, group_name, group_name_goes, reference_name, reference_name_goes, asks, asks_digits, asks_name_goes, letters_on, letters_dash, letters_off, run, observe, start}
use Rattle.rl_pattern.proofs.Steps.{Fair, reads_from, sign_goes}
use Rattle.rl_pattern.proofs.Reading.{Out, frame, base, Bt, items_go, branches_go, Outermost, fronts_go, opening_between, at_the_end, at_the_start, signs, bar_goes}
use Rattle.rl_pattern.proofs.Sound.{LexOk, BaseOk, BelowOk, BranchesOk, none_yet, some_yet, all_items}
use Rattle.rl_pattern.proofs.Viability.{observe-append, run_ok, begins}

abbrev is_paren : ℕ → InHead → Option ℕ
is_paren n paren = Some n
is_paren n quest = None
is_paren n after_p = None
is_paren n after_less = None
is_paren n group_name = None
is_paren n (group_name_goes m) = None
is_paren n reference_name = None
is_paren n reference_name_goes = None
is_paren n asks = None
is_paren n asks_digits = None
is_paren n asks_name_goes = None
is_paren n (letters_on f) = None
is_paren n (letters_dash f) = None
is_paren n (letters_off f g) = None

abbrev opened_lex : ℕ → Lex → Option ℕ
opened_lex n (in_head a h) = is_paren n h
opened_lex n between = None
opened_lex n line = None
opened_lex n comment = None
opened_lex n (in_braces a t) = None
opened_lex n (counted a p q m) = None
opened_lex n (at_slash a) = None
opened_lex n (in_escape a x) = None
opened_lex n (set_open a) = None
opened_lex n (in_class a v s) = None

-- The number of open groups if the last code is a parenthesis between items.
abbrev pub opened : ℕ → State → Option ℕ
opened k s = opened_lex (length s.base.below) s.lex

opened_fair : Fair opened
opened_fair =
    record {
      at_line = λ k b. refl;
      at_braces = λ k b a t. refl;
      at_counted = λ k b a p q n. refl;
      at_escape = λ k b a x e h. refl;
      at_open = λ k b a. refl;
      at_class = λ k b a v s. refl;
    }

module _ (text : Bool) (w : List ℕ) where
  abbrev From : ℕ → State → Option ℕ
  From = reads_from text w opened

  record PartRead (fl : Flags) (kd : Kind) (o : Out) (i k : ℕ) : Type 0 where
    from : ℕ
    before : List Branch
    its : List SyntaxNode
    end : Last
    reads : From i (Bt text w opened opened_fair fl kd o i [] [] nothing_yet) ≡ From k (Bt text w opened opened_fair fl kd o from before its end)

  part_goes : {kd : Kind} {fl : Flags} {i k : ℕ} → Part text w kd fl i k → (o : Out) → PartRead fl kd o i k
  part_goes {kd} (part_first {i = i} its) o = let r = items_go text w opened opened_fair its kd o i [] in record { from = i; before = []; its = r.its; end = r.end; reads = r.reads }
  part_goes {kd} {fl} (part_next {j = j} {k = k} {bs = bs} h at_j may hs) o =
      let r = branches_go text w opened opened_fair h o in
      let s = items_go text w opened opened_fair hs kd o (suc j) bs in
      record { from = suc j; before = bs; its = s.its; end = s.end; reads = r.reads ∙ bar_goes text w opened opened_fair fl kd o r.from r.before r.its r.end j bs at_j r.all may ∙ s.reads }

  record OpenRead (call : Flags) (kd : Kind) (fl : Flags) (k d : ℕ) : Type 0 where
    out : Out
    from : ℕ
    before : List Branch
    its : List SyntaxNode
    end : Last
    deep : length out.below ≡ d
    reads : From 0 (start call) ≡ From k (Bt text w opened opened_fair fl kd out from before its end)

  open_goes : (call : Flags) {kd : Kind} {fl : Flags} {k d : ℕ} → Open text w call kd fl k d → OpenRead call kd fl k d
  open_goes call (none_open {i = i} {gs = gs} h p) =
      let r = part_goes p (Outermost text w opened opened_fair i gs) in
      record { out = Outermost text w opened opened_fair i gs; from = r.from; before = r.before; its = r.its; end = r.end; deep = refl; reads = fronts_go text w opened opened_fair h ∙ r.reads }
  open_goes call (one_open {j = j} {k = k} {kd = kd} {outer = outer} {fl = fl} h o p) =
      let r = open_goes call h in
      let out1 : Out = record { opened = k; start = j; below = frame fl outer r.out r.from r.before (settled r.its r.end) ∷ r.out.below; fronts = r.out.fronts } in
      let s = part_goes p out1 in
      record {
        out = out1;
        from = s.from;
        before = s.before;
        its = s.its;
        end = s.end;
        deep = ap suc r.deep;
        reads = r.reads ∙ opening_between text w opened opened_fair (base fl outer r.out r.from r.before r.its r.end) o ∙ s.reads;
      }

-- If by the grammar `d` groups are open before the last parenthesis, they are open in the machine.
pub open_seen : (call : Flags) (text : Bool) (w : List ℕ) (kd : Kind) (fl : Flags) (k d : ℕ) → Open text w call kd fl k d → At text w k 40 → length w ≡ suc k → observe text opened 0 (Some (start call)) w ≡ Some d
open_seen call text w kd fl k d h at_k len =
    let r = open_goes text w call h in
    let b = base fl kd r.out r.from r.before r.its r.end in
    sym (at_the_start text w opened (start call)) ∙ r.reads ∙ sign_goes text w opened k 40 b left (at b (in_head k paren)) at_k signs.0 refl ∙ ap (λ n. reads_from text w opened n (at b (in_head k paren))) (sym len) ∙ at_the_end text w opened (at b (in_head k paren)) ∙ ap Some r.deep

module _ (call : Flags) (text : Bool) (w : List ℕ) where
  part_of : (kd : Kind) (fl : Flags) (st f k : ℕ) (ds : List Branch) (ps : List SyntaxNode) → BranchesOk call text w kd fl st f ds → Items text w fl f k ps → Part text w kd fl st k
  part_of kd fl st f k ds ps none_yet its = part_first its
  part_of kd fl st f k ds ps (some_yet h at_j may) its = part_next h at_j may its

  open_of : (gs : List Front) (fl : Flags) (kd : Kind) (op st f k : ℕ) (ds : List Branch) (ps : List SyntaxNode) (fs : List Frame) → BranchesOk call text w kd fl st f ds → Items text w fl f k ps → BelowOk call text w gs fl kd op st fs → Open text w call kd fl k (length fs)
  open_of gs fl kd op st f k ds ps [] before its (fr, e) = subst (λ z. Open text w call z fl k 0) (sym e) (none_open fr (part_of outermost fl st f k ds ps (subst (λ z. BranchesOk call text w z fl st f ds) e before) its))
  open_of gs fl kd op st f k ds ps (g ∷ fs) before its (b0, its0, o, inner, below) =
      let outer = open_of gs g.flags g.kind g.opened g.start g.from op g.branches g.items fs b0 its0 below in
      subst (λ z. Open text w call kd z k (suc (length fs))) (sym inner) (one_open outer o (part_of kd (inside kd g.flags) st f k ds ps (subst (λ z. BranchesOk call text w kd z st f ds) inner before) (subst (λ z. Items text w z f k ps) inner its)))

  pub base_open : (k : ℕ) (b : Base) → BaseOk call text w k b → Open text w call b.top.kind b.top.flags k (length b.below)
  base_open k b h = open_of b.fronts b.top.flags b.top.kind b.top.opened b.top.start b.top.from k b.top.branches (settled b.top.items b.last) b.below h.before (all_items call text w b h) h.below

  -- If the machine has just read a parenthesis, the same number of groups is open by the grammar.
  pub seen_open : (s : State) (a : ℕ) → run text 0 (Some (start call)) w ≡ Some s → s.lex ≡ in_head a paren → Open text w call s.base.top.kind s.base.top.flags a (length s.base.below)
  seen_open s a e is = let h = subst (λ x. LexOk call text w (length w) s.base x) is (run_ok call text w s e) in base_open a s.base h.0

  -- The parenthesis is the last code.
  pub seen_last : (s : State) (a : ℕ) → run text 0 (Some (start call)) w ≡ Some s → s.lex ≡ in_head a paren → length w ≡ suc a
  seen_last s a e is = let h = subst (λ x. LexOk call text w (length w) s.base x) is (run_ok call text w s e) in h.1.1

paren_from : (n d : ℕ) (a : ℕ) (h : InHead) → is_paren n h ≡ Some d → (h ≡ paren) × (n ≡ d)
paren_from n d a paren e = (refl, same_Some n d e)
paren_from n d a quest e = absurd (none-some d e)
paren_from n d a after_p e = absurd (none-some d e)
paren_from n d a after_less e = absurd (none-some d e)
paren_from n d a group_name e = absurd (none-some d e)
paren_from n d a (group_name_goes m) e = absurd (none-some d e)
paren_from n d a reference_name e = absurd (none-some d e)
paren_from n d a reference_name_goes e = absurd (none-some d e)
paren_from n d a asks e = absurd (none-some d e)
paren_from n d a asks_digits e = absurd (none-some d e)
paren_from n d a asks_name_goes e = absurd (none-some d e)
paren_from n d a (letters_on f) e = absurd (none-some d e)
paren_from n d a (letters_dash f) e = absurd (none-some d e)
paren_from n d a (letters_off f g) e = absurd (none-some d e)

lex_from : (n d : ℕ) (x : Lex) → opened_lex n x ≡ Some d → (a : ℕ) × (x ≡ in_head a paren) × (n ≡ d)
lex_from n d (in_head a h) e = let r = paren_from n d a h e in (a, ap (in_head a) r.0, r.1)
lex_from n d between e = absurd (none-some d e)
lex_from n d line e = absurd (none-some d e)
lex_from n d comment e = absurd (none-some d e)
lex_from n d (in_braces a t) e = absurd (none-some d e)
lex_from n d (counted a p q m) e = absurd (none-some d e)
lex_from n d (at_slash a) e = absurd (none-some d e)
lex_from n d (in_escape a x) e = absurd (none-some d e)
lex_from n d (set_open a) e = absurd (none-some d e)
lex_from n d (in_class a v s) e = absurd (none-some d e)

-- The machine has just read the parenthesis at `p`, around which `d` groups are open.
pub record Behind (call : Flags) (text : Bool) (w : List ℕ) (p d : ℕ) : Type 0 where
  pub state : State
  pub runs : run text 0 (Some (start call)) (take (suc p) w) ≡ Some state
  pub lex : state.lex ≡ in_head p paren
  pub deep : length state.base.below ≡ d

behind_from : (call : Flags) (text : Bool) (u : List ℕ) (d : ℕ) (o : Option State) → run text 0 (Some (start call)) u ≡ o → observe text opened (0 + length u) o [] ≡ Some d → (s : State) × (run text 0 (Some (start call)) u ≡ Some s) × (a : ℕ) × (s.lex ≡ in_head a paren) × (length s.base.below ≡ d)
behind_from call text u d None e h = absurd (none-some d h)
behind_from call text u d (Some s) e h = let r = lex_from (length s.base.below) d s.lex h in (s, e, r.0, r.1, r.2)

take_at : (w : List ℕ) (p c : ℕ) → slice_get w p ≡ Some c → slice_get (take (suc p) w) p ≡ Some c
take_at [] p c h = h
take_at (x ∷ w) zero c h = h
take_at (x ∷ w) (suc p) c h = take_at w p c h

open_behind : (call : Flags) (text : Bool) (w : List ℕ) (kd : Kind) (fl : Flags) (p d : ℕ) → At text w p 40 → Open text (take (suc p) w) call kd fl p d → Behind call text w p d
open_behind call text w kd fl p d at_p h =
    let u = take (suc p) w in
    let len : length u ≡ suc p = length-take-le (suc p) w (slice_get_within w p 40 at_p) in
    let seen = open_seen call text u kd fl p d h (take_at w p 40 at_p) len in
    let r = behind_from call text u d (run text 0 (Some (start call)) u) refl (sym (observe-append text opened 0 (start call) u []) ∙ ap (observe text opened 0 (Some (start call))) (append-nil u) ∙ seen) in
    let same : r.2 ≡ p = omega (arith, seen_last call text u r.0 r.2 r.1 r.3, len) in
    record { state = r.0; runs = r.1; lex = r.3 ∙ ap (λ a. in_head a paren) same; deep = r.4 }

-- If a group is nested too deep, the machine has just read its parenthesis, with 100 groups open.
pub too_deep_seen : (call : Flags) (text : Bool) (w : List ℕ) (p : ℕ) → TooDeepAt call text w p → Behind call text w p 100
too_deep_seen call text w p h = open_behind call text w h.deep.0 h.deep.1 p 100 h.opens h.deep.2

-- Conversely, if no `(?#` or `(?P=` is there, a group is nested too deep.
pub seen_too_deep : (call : Flags) (text : Bool) (w : List ℕ) (p : ℕ) → Behind call text w p 100 → At text w p 40 → ¬ SpelledAt text w p "(?#" → ¬ SpelledAt text w p "(?P=" → TooDeepAt call text w p
seen_too_deep call text w p h at_p no_r no_f =
    record {
      opens = at_p;
      no_comment = no_r;
      no_reference = no_f;
      deep = (h.state.base.top.kind, h.state.base.top.flags, subst (λ d. Open text (take (suc p) w) call h.state.base.top.kind h.state.base.top.flags p d) h.deep (seen_open call text (take (suc p) w) h.state p h.runs h.lex));
    }

-- The codes up to such a parenthesis can be continued to a pattern.
pub too_deep_begins : (call : Flags) (text : Bool) (w : List ℕ) (p : ℕ) → TooDeepAt call text w p → Begins call text (take (suc p) w)
too_deep_begins call text w p h = let r = too_deep_seen call text w p h in begins call text (take (suc p) w) r.state r.runs
