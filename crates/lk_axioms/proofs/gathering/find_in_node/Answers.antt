use Rattle.lk_store.specs.Store.{contents_of}
use Rattle.lk_env.specs.Units.{library_of}
use Rattle.lk_axioms.proofs.Parts.{const_made, proj_made, app_made, lam_made, pi_made, let_made}
use Rattle.lk_axioms.proofs.gathering.find_in_node.Goals as goal

pub returns-in-Const : goal.returns-in-Const
returns-in-Const c =
    const_made (contents_of c.args.library.now.tables) (library_of c.args.library.now) c.args.unit c.args.gathering.now c.requires.right c.args.node
    c.in-Const.name c.in-Const.field-1 c.named.result c.in-Const.is c.named.ensures.finding c.named.ensures.known

pub returns-in-Proj : goal.returns-in-Proj
returns-in-Proj c =
    proj_made (contents_of c.args.library.now.tables) (library_of c.args.library.now) c.args.unit c.args.gathering.now c.requires.right c.args.node c.requires.node_in c.requires.parts
    c.in-Proj.name c.in-Proj.field-1 c.in-Proj.e c.join_with.new.gathering c.named-own.result c.join_with.result c.in-Proj.is c.named-own.ensures.finding c.named-own.ensures.known c.join_with.ensures

pub returns-in-App : goal.returns-in-App
returns-in-App c =
    app_made (contents_of c.args.library.now.tables) (library_of c.args.library.now) c.args.unit c.args.gathering.now c.requires.right c.args.node c.requires.node_in c.requires.parts
    c.in-App.a c.in-App.b c.join_parts.new.gathering c.join_parts.result c.in-App.is c.join_parts.ensures

pub returns-in-Lam : goal.returns-in-Lam
returns-in-Lam c =
    lam_made (contents_of c.args.library.now.tables) (library_of c.args.library.now) c.args.unit c.args.gathering.now c.requires.right c.args.node c.requires.node_in c.requires.parts
    c.in-Lam.a c.in-Lam.b c.join_parts-in-Lam.new.gathering c.join_parts-in-Lam.result c.in-Lam.is c.join_parts-in-Lam.ensures

pub returns-in-Pi : goal.returns-in-Pi
returns-in-Pi c =
    pi_made (contents_of c.args.library.now.tables) (library_of c.args.library.now) c.args.unit c.args.gathering.now c.requires.right c.args.node c.requires.node_in c.requires.parts
    c.in-Pi.a c.in-Pi.b c.join_parts-in-Pi.new.gathering c.join_parts-in-Pi.result c.in-Pi.is c.join_parts-in-Pi.ensures

pub returns-in_ok-two-in-Let : goal.returns-in_ok-two-in-Let
returns-in_ok-two-in-Let c =
    let_made (contents_of c.args.library.now.tables) (library_of c.args.library.now) c.args.unit c.args.gathering.now c.requires.right c.args.node c.requires.node_in c.requires.parts
    c.in-Let.a c.in-Let.b c.in-Let.c c.join_parts-in-Let.new.gathering c.join_with-in-Let.new.gathering c.in_ok-two-in-Let.two c.join_with-in-Let.result c.in-Let.is c.in_ok-two-in-Let.ensures c.join_with-in-Let.ensures
