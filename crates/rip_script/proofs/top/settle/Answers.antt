use Rattle.rip_script.proofs.top.settle.Goals as goal

pub returns-in-Tokens-clause-settles : goal.returns-in-Tokens-clause-settles
returns-in-Tokens-clause-settles g c = rw c.in-Tokens.is c.settle_tokens.ensures.settles

pub returns-in-Tree-clause-settles : goal.returns-in-Tree-clause-settles
returns-in-Tree-clause-settles g c = rw c.in-Tree.is c.settle_tree.ensures.settles
