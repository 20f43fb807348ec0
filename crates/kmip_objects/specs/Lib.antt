-- What an object is, which values its attributes may have, how it is found, and what holds of objects.

-- The numbers of the states.
pub mod States
-- Which step leads from which state to which, and the names of the steps.
pub mod Lifecycle
-- An object as a client may know it, and how objects are found, restated and distinct.
pub mod Objects
-- The values that the attributes of an object may have.
pub mod Ranges
-- A search by the attributes that are given, and what is told of an object.
pub mod Attributes
-- The mask under which a search looks in every state.
pub mod Searching
-- What holds of objects that are found, that come, and that change their state.
pub mod ObjectLaws
