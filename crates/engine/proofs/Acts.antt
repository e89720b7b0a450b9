-- What is done with a new job is a history, and all that holds of histories holds of it.
use Rattle.std.proofs.Common.{◌≡◌, ℕ, ◌+◌, ◌<◌, List, [], ◌∷◌, ◌++◌, length, get_or, set, take, drop, map, reverse, refl, sym, ap, subst, ◌∙◌, arith}
use Rattle.std.proofs.Math.Numerals.{add-one}
use Rattle.std.proofs.Math.Seq.{take-suc}
use Rattle.std.proofs.lemmas.List.{take_more_set, reverse-append, map-append, drop-drop, drop-set-lt}
use Rattle.machine.specs.Machine.{Frame, State}
use Rattle.machine.specs.Ledger.{Act, Reply, reply, after_act, History, created, acted, IsSound}
use Rattle.machine.proofs.Accounts.{ledger_accounted}
use Rattle.machine.proofs.Vouches.{quiet_vouched}
use Rattle.machine.proofs.Rests.{idle-rests}
use Rattle.machine.proofs.Valids.{ledger-facts-valid}
use Rattle.machine.proofs.Upholds.{all_upheld}
use Rattle.engine.specs.declared.act_types.Act.{Act as CodeAct}
use Rattle.engine.specs.declared.act_types.Reply.{Reply as CodeReply}
use Rattle.engine.specs.Acts.{Done, with_act, with_acts, act_with, list_after, told_of, replies_of, EachUpheld, Kept}

each_upheld : (fr : Frame) → IsSound fr → {h : List (Act × Reply)} {st : State} (hist : History fr h st) → EachUpheld fr hist
each_upheld fr s created = tt
each_upheld fr s (acted {h = h} {st = st} before a) = (each_upheld fr s before, all_upheld fr s h a st before)

pub history_acts : (fr : Frame) (as' : List CodeAct) (d : Done) → History fr d.history d.state → History fr (with_acts fr as' d).history (with_acts fr as' d).state
history_acts fr [] d hist = hist
history_acts fr (a ∷ rest) d hist = history_acts fr rest (with_act fr a d) (acted hist (act_with d.list a))

pub kept : (fr : Frame) → IsSound fr → (h : List (Act × Reply)) (st : State) → History fr h st → Kept fr h st
kept fr s h st hist =
    record {
      history = hist;
      each = each_upheld fr s hist;
      accounts = ledger_accounted fr h st hist;
      quiet = λ a y earlier e q. quiet_vouched fr s earlier a y st (subst (λ (x : List (Act × Reply)). History fr x st) e hist) q;
      rests = idle-rests fr h st hist;
      valid = λ c p. ledger-facts-valid fr c h st hist p;
    }

-- one act more ---------------------------------------------------------------------------------------------------------

with_acts-push : (fr : Frame) (as' : List CodeAct) (a : CodeAct) (d : Done) → with_acts fr (as' ++ (a ∷ [])) d ≡ with_act fr a (with_acts fr as' d)
with_acts-push fr [] a d = refl
with_acts-push fr (b ∷ as') a d = with_acts-push fr as' a (with_act fr b d)

replies_push : (fr : Frame) (a : CodeAct) (d : Done) → replies_of (with_act fr a d) ≡ replies_of d ++ (told_of (reply fr (act_with d.list a) d.state) ∷ [])
replies_push fr a d =
    let e : Act × Reply = (act_with d.list a, reply fr (act_with d.list a) d.state) in
    ap (map (λ (x : Act × Reply). told_of x.1)) (reverse-append (e ∷ []) d.history) ∙ map-append (λ (x : Act × Reply). told_of x.1) (reverse d.history) (e ∷ [])

-- what was done so far, as the code has it: the state, the list and the replies
pub record IsDone (fr : Frame) (as' : List CodeAct) (start : Done) (n : ℕ) (st : State) (ns : List ℕ) (before now : List CodeReply) : Type 0 where
  pub state : st ≡ (with_acts fr (take n as') start).state
  pub list : ns ≡ (with_acts fr (take n as') start).list
  pub replies : take n now ≡ replies_of (with_acts fr (take n as') start)
  pub rest : drop n now ≡ drop n before

drop-more : (n : ℕ) (xs ys : List CodeReply) → drop n xs ≡ drop n ys → drop (n + 1) xs ≡ drop (n + 1) ys
drop-more n xs ys e = sym (drop-drop 1 n xs) ∙ ap (λ (x : List CodeReply). drop 1 x) e ∙ drop-drop 1 n ys

pub done_more : (fr fr' : Frame) (as' : List CodeAct) (start : Done) (n : ℕ) (st : State) (ns : List ℕ) (before now : List CodeReply) (d : CodeAct) (st' : State) (ns' : List ℕ) (r : CodeReply) →
    fr' ≡ fr → IsDone fr as' start n st ns before now → n < length as' → n < length now → (a : CodeAct) → a ≡ get_or as' n d →
    r ≡ told_of (reply fr' (act_with ns a) st) → st' ≡ after_act fr' (act_with ns a) st → ns' ≡ list_after fr' (act_with ns a) st ns →
    IsDone fr as' start (n + 1) st' ns' before (set now n r)
done_more fr fr' as' start n st ns before now d st' ns' r same so h k a q e f m =
    let was : Done = with_acts fr (take n as') start in
    let more : with_acts fr (take (n + 1) as') start ≡ with_act fr a was =
    rw (add-one, take-suc as' n d h) (with_acts-push fr (take n as') (get_or as' n d) start) ∙ (λ i. with_act fr (sym q i) was) in
    record {
      state = f ∙ (λ i. after_act (same i) (act_with (so.list i) a) (so.state i)) ∙ ap (λ (x : Done). x.state) (sym more);
      list = m ∙ (λ i. list_after (same i) (act_with (so.list i) a) (so.state i) (so.list i)) ∙ ap (λ (x : Done). x.list) (sym more);
      replies =
          take_more_set now n r k
          ∙ (λ i. so.replies i ++ ((e ∙ (λ j. told_of (reply (same j) (act_with (so.list j) a) (so.state j)))) i ∷ []))
          ∙ sym (replies_push fr a was) ∙ ap replies_of (sym more);
      rest = drop-set-lt (n + 1) now n r (omega arith) ∙ drop-more n now before so.rest;
    }
