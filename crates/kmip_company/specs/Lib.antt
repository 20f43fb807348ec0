-- Clients of one plan or of several, any number at once: what may occur, and what then holds.

-- open this first: what a company is, and what may occur in it
pub mod Companies
-- what a good company is, and a safe one
pub mod Safety
-- what the turns of a client are in a company
pub mod Acting
-- events at different places
pub mod Apart
-- one client amid others, and how many exchanges it may still make
pub mod Amid
-- a link that another client of the plan uses too
pub mod Sharing
-- a campaign over such a link
pub mod SharedCampaigns
-- what holds of any company
pub mod Laws
-- clients of several plans at once: what may occur, and what then holds
pub mod Mixed
-- what holds of any company of such clients
pub mod MixedLaws
-- private: what the trait of links asks of a shared link
pub mod PrivateSharing
-- private: the laws of the crates below that these rest on
pub mod PrivateLawbook
